-- None stands there.
use Rattle.std.proofs.lemmas.List.{take_rest}
use Rattle.digits.proofs.Taking.{take_none, take_other, take_end}
use Rattle.digits.proofs.take_number.Goals as goal
use Rattle.digits.proofs.take_number.Goals.{then-count-eq0-via-then-count-eq0, then-count-eq0-via-else-count-eq0+then-last-end}

pub returns-in_err-last : goal.returns-in_err-last
returns-in_err-last c =
    rw c.from_residual.ensures (take_end c.take_digits-number.ensures c.requires (simp take_rest at c.in_err-last.ensures.cases))

pub returns-then-count-eq0 : goal.returns-then-count-eq0
returns-then-count-eq0 c =
    let ran = c.take_digits-number.ensures in
    let begins = simp take_rest at c.in_ok-last.ensures.cases.0 in
    elim c.then-count-eq0.branch [
      | then-count-eq0-via-then-count-eq0 w ↦ take_none ran c.requires w.if-count-eq0.true
      | then-count-eq0-via-else-count-eq0+then-last-end w ↦ take_other ran c.requires begins w.if-last-end.true
    ]
