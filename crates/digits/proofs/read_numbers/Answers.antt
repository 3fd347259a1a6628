-- A number is read, or none stands there. The byte that must follow it is told by whether it is the last.
use Rattle.std.proofs.Common.{◌≡◌, ◌+◌, length, ltb, sym, ap, ◌∙◌}
use borrow.Author.Tests.{lt-ltb, le-ltb}
use Rattle.digits.proofs.Reading.{end_of, reading_stuck, reading_more}
use Rattle.digits.proofs.read_numbers.Goals as goal
use Rattle.digits.proofs.read_numbers.Goals.{then-i-count, else-i-count}

pub returns-in_default : goal.returns-in_default
returns-in_default c =
    let ending : c.if-i-count.end ≡ end_of (ltb (c.loop-i.i + 1) (length c.args.list.now)) =
    elim c.if-i-count.branch [
      | then-i-count w ↦ w.end-is ∙ sym (ap end_of (lt-ltb _ _ w.if-i-count.true))
      | else-i-count w ↦ w.end-is ∙ sym (ap end_of (le-ltb _ _ w.if-i-count.false))
    ] in
    let no = reading_stuck c.args.line.now _ c.loop-i.invariant c.loop-i-test.true ending c.in_default.ensures in
    record { yes = λ t. absurd (cc); no = λ f. no }

pub loop-i-preserved : goal.loop-i-preserved
loop-i-preserved c =
    let ending : c.if-i-count.end ≡ end_of (ltb (c.loop-i.i + 1) (length c.args.list.now)) =
    elim c.if-i-count.branch [
      | then-i-count w ↦ w.end-is ∙ sym (ap end_of (lt-ltb _ _ w.if-i-count.true))
      | else-i-count w ↦ w.end-is ∙ sym (ap end_of (le-ltb _ _ w.if-i-count.false))
    ] in
    reading_more c.args.line.now _ c.loop-i.invariant c.loop-i-test.true ending c.in-Some.ensures
