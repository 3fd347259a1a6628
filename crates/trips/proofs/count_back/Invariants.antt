-- As many roads lie behind v as were counted; the ways allow no more than they are.
use Rattle.std.proofs.Common.{◌-◌, length}
use Rattle.reading.specs.Reading.{net}
use Rattle.trips.proofs.Writing.{CountLoop}
use Rattle.trips.proofs.count_back.Given as goal

abbrev pub invariant-loop-v : goal.invariant-loop-v
invariant-loop-v l = CountLoop (net l.map.reading l.map.roads.now).roads l.ways l.source l.initial.v l.v l.count

abbrev pub decreases-loop-v : goal.decreases-loop-v
decreases-loop-v l = length l.ways - l.count
