use Rattle.search.proofs.Spreading.{spread_next, spread_done}
use Rattle.search.proofs.Lists.spread.Goals as goal

pub loop-road-preserved : goal.loop-road-preserved
loop-road-preserved c =
    spread_next c.requires (rw c.in-Some.is at c.loop-road.invariant) c.relax.ensures c.previous-road.ensures

pub returns : goal.returns
returns c = spread_done _ c.loop-road.invariant c.in_default.not-Some
