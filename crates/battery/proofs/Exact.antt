-- Nothing is cut off at 0: b − c where the road can be driven, start − sum from need on. Assumes nothing.
use mathlib.Core.Path.{◌≡◌, sym, ◌∙◌}
use mathlib.Core.Bool.{true}
use Prim.Native.Nat.{ℕ, ◌+◌, ◌≤◌}
use native.Mathlib.Omega.{arith}
use borrow.Author.Tests.{leb-true, le-leb}
use lib.IntN.{ℤ, pos, ◌-ℤ◌}
use lib.Signed.{le_z}
use Rattle.numbers.proofs.Diff.{diff_self, diff_pos, diff_minus, diff_le_z}
use Rattle.numbers.proofs.Sign.{from_zero}
use Rattle.numbers.specs.Signed.{draw, gain}
use Rattle.battery.specs.Claims.{LeftExact, SumWithinNeed}
use Rattle.battery.proofs.Join.{profile_kept}
use Rattle.battery.proofs.Rule.{drivable_is}

not_below : (b : ℕ) (c : ℤ) → draw c ≤ b → le_z (pos 0) (pos b -ℤ c) ≡ true
not_below b c h =
    diff_le_z (diff_pos 0) (diff_minus (diff_pos b) (diff_self c))
    ∙ le-leb (0 + (0 + draw c)) (b + gain c + 0) (omega arith)

pub left_exact : LeftExact
left_exact B b r e =
    let c = r.consumption in
    sym (from_zero (pos b -ℤ c) (not_below b c (leb-true (draw c) b (sym (drivable_is B b r) ∙ e))))

pub sum_within_need : SumWithinNeed
sum_within_need B rs p e =
    let k = (profile_kept B rs e).sum_need in
    diff_le_z (diff_self p.sum) (diff_pos p.need) ∙ le-leb (draw p.sum + 0) (p.need + gain p.sum) (omega arith)
