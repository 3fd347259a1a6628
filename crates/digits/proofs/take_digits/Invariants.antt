-- Invariant: the first i bytes are digits and spell the number.
use Rattle.digits.specs.Taking.{Run}
use Rattle.digits.proofs.take_digits.Given as goal

abbrev pub invariant-loop-i : goal.invariant-loop-i
invariant-loop-i l = Run l.line l.number l.i
