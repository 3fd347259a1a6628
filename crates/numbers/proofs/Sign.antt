-- What a test against 0 tells of a signed number. Assumes nothing.
use mathlib.Core.Path.{◌≡◌, refl}
use mathlib.Core.Bool.{true, false}
use Prim.Native.Nat.{ℕ}
use native.Mathlib.Omega.{arith}
use lib.IntN.{ℤ, pos, negsuc}
use lib.Signed.{le_z, lt_z}
use Rattle.numbers.specs.Signed.{draw}

pub from_zero : (x : ℤ) → le_z (pos 0) x ≡ true → x ≡ pos (draw x)
from_zero (pos n) h = refl
from_zero (negsuc n) h = let z : ◌≡◌ {A = ℕ} 0 1 = cc in absurd (omega arith)

pub nonneg : (x : ℤ) → lt_z x (pos 0) ≡ false → x ≡ pos (draw x)
nonneg (pos n) h = refl
nonneg (negsuc n) h = let z : ◌≡◌ {A = ℕ} 0 1 = cc in absurd (omega arith)
