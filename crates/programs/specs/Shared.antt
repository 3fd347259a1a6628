-- What the functions that the programs share ask and keep. No promise cites it.
use Rattle.std.specs.Prelude.{List, ℕ, ◌^◌, ◌≤◌, ◌<◌, length, get_or, IfSome}
use Rattle.io.specs.Counts.{IsPrefixLen}
use Rattle.digits.specs.Puts.{Written}
use Rattle.programs.specs.Program.{Program}
use Rattle.programs.specs.declared.Inputs.{Inputs}
use Rattle.programs.specs.declared.Sizes.{Sizes}

-- as much of each file's buffer is filled as was read
pub record Filled (nodes roads : List ℕ) (s : Sizes) : Type 0 where
  pub nodes_count : IsPrefixLen s.nodes nodes
  pub roads_count : IsPrefixLen s.roads roads

-- .. and of the line's
pub record Reads (line nodes roads : List ℕ) (r : Inputs) : Type 0 where
  pub line_count : IsPrefixLen r.line line
  pub files_count : IfSome r.files (Filled nodes roads)

-- every number is below 10^10
abbrev pub Small : List ℕ → Type 0
Small ms = (i : ℕ) → get_or ms i 0 < 10 ^ 10

-- a response asks that the first `size` bytes of the buffer are the roads, and for room for the longest text
pub record Lent (room size : ℕ) (roads : List ℕ) : Type 0 where
  pub counts : IsPrefixLen size roads
  pub suffices : room ≤ length roads

-- a text that the program may write for these numbers and files stands at the start of the buffer, up to `to`
pub record Answers (P : Program) (ms ns rs out : List ℕ) (to : ℕ) : Type 0 where
  pub text : List ℕ
  pub allowed : P.Writes ms ns rs text
  pub written : Written text out to
