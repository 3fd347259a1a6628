-- A number of a question that is a natural is what its bits read back as. Assumes nothing.
use mathlib.Core.Path.{◌≡◌, sym, ap, subst}
use mathlib.Core.Bool.{true}
use Prim.Native.Nat.{ℕ}
use native.Mathlib.Omega.{arith}
use lib.IntN.{ℤ, pos, negsuc}
use mir.Syntax.{w64}
use mir.Val.{to_z, of_z}
use Rattle.numbers.proofs.Bits.{back64}
use Rattle.numbers.specs.Signed.{draw}
use Rattle.battery.specs.Drive.{fresh}
use Rattle.promises.specs.Order.{is_battery, is_start, battery_of}
use Rattle.promises.specs.Passed.{Whole}
use Rattle.promises.proofs.Passed.{battery_whole, start_whole}

whole_back : (z : ℤ) → Whole z → to_z w64 (of_z w64 z) ≡ z
whole_back (pos n) w = back64 {z = pos n} (omega (arith, w.draw_le))
whole_back (negsuc n) w = let z : ◌≡◌ {A = ℕ} 0 1 = cc w.from_0 in absurd (omega arith)

-- what `numbers::whole` is asked for
pub whole_bits : {z : ℤ} → Whole z → Whole (to_z w64 (of_z w64 z))
whole_bits {z} w = subst Whole (sym (whole_back z w)) w

-- the battery of a question, and its start
pub battery_bits : (m : ℤ) → is_battery m ≡ true → Whole (to_z w64 (of_z w64 m))
battery_bits m e = whole_bits (battery_whole m e)

pub start_bits : (m b : ℤ) → is_battery m ≡ true → is_start m b ≡ true → Whole (to_z w64 (of_z w64 b))
start_bits m b e f = whole_bits (start_whole m b e f).0

-- what is made of them: a battery, and a van that sets out
pub battery_back : (m : ℤ) → is_battery m ≡ true → battery_of (to_z w64 (of_z w64 m)) ≡ battery_of m
battery_back m e = ap battery_of (whole_back m (battery_whole m e))

pub van_back : (m b : ℤ) → is_battery m ≡ true → is_start m b ≡ true
    → fresh (battery_of (to_z w64 (of_z w64 m))) (draw (to_z w64 (of_z w64 b))) ≡ fresh (battery_of m) (draw b)
van_back m b e f =
    let s = ap draw (whole_back b (start_whole m b e f).0) in
    λ i. fresh (battery_back m e i) (s i)
