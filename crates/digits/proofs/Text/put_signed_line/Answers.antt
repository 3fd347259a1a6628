-- A minus sign and the size of a negative number, or the number.
use Rattle.std.proofs.Common.{◌≡◌, true, false, ◌∷◌, ℕ, ℤ, pos, negsuc, refl, ap, ◌∙◌, arith}
use borrow.Author.Tests.{ltb-true}
use lib.IntN.{nat_abs}
use lib.Signed.{lt_z}
use mir.Facts.{to_z-of_z}
use Rattle.digits.specs.Decimal.{minus, number_line, signed_line}
use Rattle.digits.proofs.Decimal.{wide_line}
use Rattle.digits.proofs.Writing.{puts_then, puts_as}
use Rattle.digits.proofs.Text.put_signed_line.Goals as goal
use Rattle.digits.proofs.Text.put_signed_line.Goals.{then-n-lt0, else-n-lt0}

negative_line : (z : ℤ) → lt_z z (pos 0) ≡ true → minus ∷ number_line (nat_abs z) ≡ signed_line z
negative_line (pos n) h = absurd (omega (arith, ltb-true n 0 h))
negative_line (negsuc n) h = refl

other_line : (z : ℤ) → lt_z z (pos 0) ≡ false → number_line (nat_abs z) ≡ signed_line z
other_line (pos n) h = refl
other_line (negsuc n) h = absurd (cc)

pub returns : goal.returns
returns c =
    let back = to_z-of_z c.ranges.n in
    let size : c.from.result ≡ nat_abs c.args.n = c.from.ensures ∙ c.unsigned_abs.ensures.value ∙ ap nat_abs back in
    let short = wide_line c.from.result (omega (arith, c.unsigned_abs.ensures.bound)) in
    let line = c.put_number_line.ensures.puts in
    elim c.if-n-lt0.branch [
      | then-n-lt0 w ↦
          let all = puts_then w.put.ensures (rw w.self-is at line) in
          let below = simp back at w.if-n-lt0.true in
          record {
            puts = puts_as (ap (λ (n : ℕ). minus ∷ number_line n) size ∙ negative_line c.args.n below) all;
            few = omega (arith, all.len);
          }
      | else-n-lt0 w ↦
          let all = rw w.self-is at line in
          let above = simp back at w.if-n-lt0.false in
          record {
            puts = puts_as (ap number_line size ∙ other_line c.args.n above) all;
            few = omega (arith, all.len);
          }
    ]
