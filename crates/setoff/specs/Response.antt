-- The program `setoff`: its line, and what it writes for it.
use Rattle.std.specs.Prelude.{◌≡◌, List, ℕ, ℤ, pos, length, get_or}
use Rattle.network.specs.Files.{junctions, most_junctions}
use Rattle.promises.specs.declared.CheckNumbers.{CheckNumbers}
use Rattle.promises.specs.Promises.{SetsOff}
use Rattle.promises.specs.declared.SetOffQuestion.{SetOffQuestion}
use Rattle.programs.specs.Program.{Program}
use Rattle.text.specs.Answer.{set_off_text}

-- the numbers of the line: battery, depot
abbrev pub question : List ℕ → SetOffQuestion
question ms = record { battery = pos (get_or ms 0 0); depot = get_or ms 1 0 }

-- the text of an outcome that set off's promise allows on these files and numbers, with a list lent to it that has an entry for
-- any junction
pub data Writes (ms ns rs : List ℕ) : List ℕ → Type 0 where
  outcome : (list xs : List ℤ) (a : CheckNumbers) → length list ≡ most_junctions → SetsOff ns rs (question ms) list a xs
      → Writes ms ns rs (set_off_text a (junctions ns) xs)

-- a line of two numbers
abbrev pub set_off_program : Program
set_off_program = record { count = 2; Writes = Writes }
