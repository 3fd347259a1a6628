-- How the program begins, and what it responds.
use Rattle.std.proofs.Common.{arith}
use Rattle.digits.proofs.Lines.{line_small}
use Rattle.programs.proofs.Responses.{responds_bad, responds_none, responds_answered}
use Rattle.programs.proofs.respond.Goals as goal

pub read_array-requires : goal.read_array-requires
read_array-requires g c = omega (arith, g.met.P.CabProgram.few)

pub returns-in_default-clause-responds : goal.returns-in_default-clause-responds
returns-in_default-clause-responds g c =
    responds_bad g.P.CabProgram.program g.met.P.CabProgram.counts c.in_default.ensures c.write_word.ensures

pub returns-in_default-files-clause-responds : goal.returns-in_default-files-clause-responds
returns-in_default-files-clause-responds g c =
    let line = c.in-Some.ensures in
    rw c.in_default-files.is
    (responds_none g.P.CabProgram.program g.met.P.CabProgram.counts line.0 line.1 c.write_word-in_default-files.ensures)

pub answer-requires : goal.answer-requires
answer-requires g c =
    let filled = rw c.in-Some-files.is at c.requires.filled in (
      omega (arith, g.met.P.CabProgram.few),
      (line_small c.in-Some.ensures.1, record { counts = filled.roads_count; suffices = c.requires.room }),
    )

pub returns-clause-responds : goal.returns-clause-responds
returns-clause-responds g c =
    let line = c.in-Some.ensures in
    rw c.in-Some-files.is (responds_answered g.P.CabProgram.program g.met.P.CabProgram.counts line.0 line.1 c.answer.ensures)
