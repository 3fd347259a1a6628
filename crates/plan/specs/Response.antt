-- The program `plan`: its line, and what it writes for it.
use Rattle.std.specs.Prelude.{◌≡◌, List, ℕ, pos, length, get_or}
use Rattle.promises.specs.Promises.{Plans}
use Rattle.promises.specs.declared.PlanNumbers.{PlanNumbers}
use Rattle.promises.specs.declared.PlanQuestion.{PlanQuestion}
use Rattle.programs.specs.Program.{Program}
use Rattle.text.specs.Answer.{most_route, answer_text}

-- the numbers of the line: battery, start, source, target
abbrev pub question : List ℕ → PlanQuestion
question ms = record { battery = pos (get_or ms 0 0); start = pos (get_or ms 1 0); source = get_or ms 2 0; target = get_or ms 3 0 }

-- the text of an outcome that best route's promise allows on these files and numbers, with a list lent to it that has room for
-- any route
pub data Writes (ms ns rs : List ℕ) : List ℕ → Type 0 where
  outcome : (list xs : List ℕ) (a : PlanNumbers) → length list ≡ most_route → Plans ns rs (question ms) list a xs
      → Writes ms ns rs (answer_text a xs)

-- a line of four numbers
abbrev pub plan_program : Program
plan_program = record { count = 4; Writes = Writes }
