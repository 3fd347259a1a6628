use Rattle.std.proofs.Common.{arith}
use Rattle.reasons.proofs.Reaching.{reach_start, reach_next, reach_done}
use Rattle.reasons.proofs.reach.Goals as goal

pub loop-first-init : goal.loop-first-init
loop-first-init c = reach_start c.requires (omega arith) (omega arith)

pub loop-first-preserved : goal.loop-first-preserved
loop-first-preserved c = reach_next c.loop-first.invariant (omega arith) c.mark-last.ensures

pub returns : goal.returns
returns c = reach_done c.loop-first.invariant (omega arith)

pub offset_bounds-lists-first : goal.offset_bounds-lists-first
offset_bounds-lists-first c = omega (arith, c.loop-first.invariant.listed.few)
