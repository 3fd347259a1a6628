-- A step in naturals: a road that takes d and gives g brings l + g − d from the label l, up to a cap. What the laws of both
-- senses need of it is arithmetic. Assumes nothing.
use mathlib.Core.Path.{◌≡◌}
use Prim.Native.Nat.{ℕ, zero, suc, ◌+◌, ◌-◌, ◌≤◌, ◌<◌, min}
use native.Mathlib.Omega.{arith}

pub record Capped (step : ℕ → ℕ) (g d cap : ℕ) : Type 0 where
  pub none : step 0 ≡ 0
  pub some : (l : ℕ) → 0 < l → step l ≡ min (l + g - d) cap

module _ {step : ℕ → ℕ} {g d cap : ℕ} (c : Capped step g d cap) where
  pub capped_mono : (l l' : ℕ) → l ≤ l' → step l ≤ step l'
  capped_mono zero l' h = omega (arith, c.none)
  capped_mono (suc b) zero h = absurd (omega arith)
  capped_mono (suc b) (suc b') h =
      let e = c.some (suc b) (omega arith) in
      let f = c.some (suc b') (omega arith) in
      omega arith

  pub capped_gain : (l p q : ℕ) → q + g ≤ p + d → 0 < step l → step l + q ≤ l + p
  capped_gain zero p q f h = absurd (omega (arith, c.none))
  capped_gain (suc b) p q f h = omega (arith, c.some (suc b) (omega arith))

  pub capped_le : (l : ℕ) → step l ≤ cap
  capped_le zero = omega (arith, c.none)
  capped_le (suc b) = omega (arith, c.some (suc b) (omega arith))
