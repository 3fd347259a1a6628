-- best is the greatest from a up to i.
use Rattle.std.proofs.Common.{◌^◌, ◌<◌}
use Rattle.lists.specs.Lists.{entry}
use Rattle.frontier.specs.Groups.{Run}
use Rattle.frontier.proofs.best8.Given as goal

abbrev pub invariant-loop-i : goal.invariant-loop-i
invariant-loop-i l = record { run : Run (entry l.queue) l.a l.i l.best; small : l.best < 2 ^ 63 }
