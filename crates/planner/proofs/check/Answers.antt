use Rattle.std.proofs.Common.{◌≡◌, ℕ, List, sym, Err, Ok}
use Rattle.network.specs.Check.{check_fault}
use Rattle.refusals.specs.Order.{Checked}
use Rattle.promises.specs.Given.{check_numbers}
use Rattle.promises.specs.Promises.{Checks}
use Rattle.planner.proofs.check.Goals as goal

kept : (ns rs : List ℕ) (a : Checked) → check_fault ns rs ≡ a → Checks ns rs (check_numbers a)
kept ns rs (Ok tt) e = Checks.sound e
kept ns rs (Err r) e = Checks.refused r e

pub returns : goal.returns
returns c = kept _ _ c.check.result (sym c.check.ensures)
