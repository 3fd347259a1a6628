-- The roads of the first listed junctions are followed.
use Rattle.std.proofs.Common.{◌-◌}
use Rattle.reading.specs.Reading.{net}
use Rattle.search.specs.Sizes.{most_places}
use Rattle.reasons.proofs.Reaching.{ReachLoop}
use Rattle.reasons.proofs.reach.Given as goal

abbrev pub invariant-loop-first : goal.invariant-loop-first
invariant-loop-first l = ReachLoop (net l.map.reading l.map.roads.now).roads l.source l.lists l.first l.last

abbrev pub decreases-loop-first : goal.decreases-loop-first
decreases-loop-first l = most_places - l.first
