-- The roads of u from the one in hand on are relaxed; it falls along the chain.
use Rattle.search.proofs.Links.{entry_of}
use Rattle.search.proofs.Spreading.{SpreadLoop}
use Rattle.search.proofs.Lists.spread.Given as goal

abbrev pub invariant-loop-road : goal.invariant-loop-road
invariant-loop-road l = SpreadLoop l.map.reading l.map.nodes.now l.map.roads.now l.u (entry_of l.road) l.initial.self l.self

abbrev pub decreases-loop-road : goal.decreases-loop-road
decreases-loop-road l = entry_of l.road
