use Rattle.std.proofs.Common.{arith}
use Rattle.search.proofs.Exploring.{target_settled, explore_next, explore_less, none_waits}
use Rattle.search.proofs.Starting.{explore_start}
use Rattle.search.proofs.Lists.explore.Goals as goal

pub loop-u-init : goal.loop-u-init
loop-u-init c = explore_start c.requires c.key.ensures.value (omega arith) c.raise.ensures

-- the next turn
pub loop-u-smaller : goal.loop-u-smaller
loop-u-smaller c = explore_less c.requires.sets_out.readable c.loop-u.invariant c.in-Some.ensures c.spread.ensures

pub loop-u-preserved : goal.loop-u-preserved
loop-u-preserved c = explore_next c.requires.sets_out.readable c.loop-u.invariant c.in-Some.ensures c.spread.ensures

-- the target is settled
pub returns-then-u-trip : goal.returns-then-u-trip
returns-then-u-trip c = target_settled c.requires.sets_out.readable c.loop-u.invariant c.in-Some.ensures c.if-u-trip.true

-- none waits
pub returns : goal.returns
returns c = none_waits c.requires.sets_out.readable c.loop-u.invariant c.in_default.ensures
