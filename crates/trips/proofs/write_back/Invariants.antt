-- The roads behind v stand in the list from place i on.
use Rattle.reading.specs.Reading.{net}
use Rattle.trips.proofs.Writing.{WriteLoop}
use Rattle.trips.proofs.write_back.Given as goal

abbrev pub invariant-loop-i : goal.invariant-loop-i
invariant-loop-i l = WriteLoop (net l.map.reading l.map.roads.now).roads l.ways l.fn.trip.source l.initial.v l.v l.i l.initial.list l.list
