-- The gauge is read after the first i roads, and no earlier place fails.
use Rattle.routes.proofs.Following.{Underway}
use Rattle.routes.proofs.follow.Given as goal

abbrev pub invariant-loop-i : goal.invariant-loop-i
invariant-loop-i g l = let m = g.G.Gauge in Underway m.Fits m.along m.fault l.roads l.source l.route l.fn.start l.at l.gauge l.i
