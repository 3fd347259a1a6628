-- Invariant: the first i numbers are read, and the rest of the line follows.
use Rattle.std.proofs.Common.{length}
use Rattle.digits.proofs.Reading.{Reading}
use Rattle.digits.proofs.read_numbers.Given as goal

abbrev pub invariant-loop-i : goal.invariant-loop-i
invariant-loop-i l = Reading l.line (length l.initial.list) l.list l.i l.rest
