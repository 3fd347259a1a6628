-- The state of the search; each turn settles a junction.
use Rattle.search.proofs.Exploring.{ExploreLoop, left_over}
use Rattle.search.proofs.Lists.explore.Given as goal

abbrev pub invariant-loop-u : goal.invariant-loop-u
invariant-loop-u l = ExploreLoop l.map.reading l.map.nodes.now l.map.roads.now l.trip l.self

abbrev pub decreases-loop-u : goal.decreases-loop-u
decreases-loop-u l = left_over l.map.nodes.now l.self
