-- Invariant: the bytes that came, as many as are counted, stand in the room. Measure: the room left.
use Rattle.std.proofs.Common.{length, take, ◌-◌, ◌≤◌}
use Rattle.std.specs.Io.KnownBytes.{Consumes}
use Rattle.programs.proofs.read_all.Given as goal

abbrev pub invariant-loop-count : goal.invariant-loop-count
invariant-loop-count g l =
    record {
      within : l.count ≤ length l.room;
      came : Consumes (g.R.Read.remaining l.initial.input) (g.R.Read.remaining l.input) (take l.count l.room);
    }

abbrev pub decreases-loop-count : goal.decreases-loop-count
decreases-loop-count g l = length l.initial.room - l.count
