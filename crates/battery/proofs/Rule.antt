-- The battery rule in naturals, where omega works. Assumes nothing.
use mathlib.Core.Path.{◌≡◌, ◌∙◌}
use Prim.Native.Nat.{ℕ, ◌+◌, ◌-◌, ◌≤◌}
use native.Mathlib.Omega.{arith}
use lib.Dec.{leb}
use lib.IntN.{ℤ, pos, negsuc}
use Rattle.numbers.proofs.Diff.{diff_self, diff_pos, diff_minus, diff_le_z, draw_of, leb_same}
use Rattle.numbers.specs.Signed.{draw, gain}
use Rattle.battery.specs.Rule.{drivable, needs, left}
use Rattle.battery.specs.declared.Battery.{Battery}
use Rattle.battery.specs.declared.Road.{Road}

pub left_is : (b : ℕ) (c : ℤ) → left b c ≡ b + gain c - draw c
left_is b c = let e = draw_of (diff_minus (diff_pos b) (diff_self c)) in omega arith

pub drivable_is : (B : Battery) (b : ℕ) (r : Road) → drivable B b r ≡ leb (needs B r) b
drivable_is B b r =
    let c = r.consumption in
    diff_le_z (diff_self c) (diff_pos b)
    ∙ leb_same (draw c + 0) (b + gain c) (draw c) b (one c) (λ h. omega arith)
  where
    one : (c : ℤ) → draw c + 0 ≤ b + gain c → draw c ≤ b
    one (pos n) h = omega arith
    one (negsuc n) h = omega arith
