-- The roads of u from the one in hand on are followed; it falls along the chain.
use Rattle.reading.specs.Reading.{net}
use Rattle.search.proofs.Links.{entry_of}
use Rattle.reasons.proofs.Marking.{MarkLoop}
use Rattle.reasons.proofs.mark.Given as goal

abbrev pub invariant-loop-road : goal.invariant-loop-road
invariant-loop-road l = MarkLoop (net l.map.reading l.map.roads.now).roads l.u (entry_of l.road) l.last l.initial.lists l.end l.lists

abbrev pub decreases-loop-road : goal.decreases-loop-road
decreases-loop-road l = entry_of l.road
