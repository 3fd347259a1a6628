-- The test of potentials in naturals, where omega works. Assumes nothing.
use mathlib.Core.Path.{◌≡◌, ◌∙◌}
use Prim.Native.Nat.{◌+◌}
use native.Mathlib.Omega.{arith}
use lib.Dec.{leb}
use lib.IntN.{ℤ}
use Rattle.numbers.proofs.Diff.{diff_self, diff_pos, diff_add, diff_minus, diff_le_z, leb_same}
use Rattle.numbers.specs.Signed.{draw, gain}
use Rattle.network.specs.Files.{passes}

-- a road that passes, in naturals
pub passes_draws : (c p q : ℤ) → passes c p q ≡ leb (gain c + draw p + gain q) (draw c + gain p + draw q)
passes_draws c p q =
    diff_le_z (diff_pos 0) (diff_add (diff_minus (diff_self c) (diff_self p)) (diff_self q))
    ∙ leb_same
    (0 + (gain c + draw p + gain q)) (draw c + gain p + draw q + 0)
    (gain c + draw p + gain q) (draw c + gain p + draw q)
    (λ h. omega arith) (λ h. omega arith)
