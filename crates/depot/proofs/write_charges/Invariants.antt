-- The charges of the first v labels are written.
use Rattle.depot.specs.Filling.{Written}
use Rattle.depot.proofs.write_charges.Given as goal

abbrev pub invariant-loop-v : goal.invariant-loop-v
invariant-loop-v l = Written l.battery l.labels l.v l.initial.list l.list
