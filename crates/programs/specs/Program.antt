-- What a program may write, as bytes. `bad query` comes first, then `no file`, then what its own promise allows.
use Rattle.std.specs.Prelude.{◌≡◌, Bool, true, false, List, [], ◌∷◌, ℕ, length, take, is_some, Option, None, Some}
use Rattle.digits.specs.Line.{space, newline, Line}
use Rattle.programs.specs.declared.Sizes.{Sizes}

-- `bad query` and `no file`, each on a line
abbrev pub bad_query : List ℕ
bad_query = 98 ∷ 97 ∷ 100 ∷ space ∷ 113 ∷ 117 ∷ 101 ∷ 114 ∷ 121 ∷ newline ∷ []

abbrev pub no_file : List ℕ
no_file = 110 ∷ 111 ∷ space ∷ 102 ∷ 105 ∷ 108 ∷ 101 ∷ newline ∷ []

-- a program: how many numbers its line has, and the texts that it may write for these numbers, with the bytes ns and rs of the
-- two files
pub record Program : Type 1 where
  pub count : ℕ
  pub Writes : List ℕ → List ℕ → List ℕ → List ℕ → Type 0

-- what it writes: no such line stands at the start of the bytes; or one does, and a file could not be opened or read; or one does,
-- and both files were read
pub data Responds (P : Program) (line : List ℕ) (files : Bool) (ns rs : List ℕ) : List ℕ → Type 0 where
  bad : ((ms : List ℕ) → length ms ≡ P.count → Line ms line → ⊥) → Responds P line files ns rs bad_query
  none : (ms : List ℕ) → length ms ≡ P.count → Line ms line → files ≡ false → Responds P line files ns rs no_file
  answered : {text : List ℕ} (ms : List ℕ) → length ms ≡ P.count → Line ms line → files ≡ true → P.Writes ms ns rs text
      → Responds P line files ns rs text

-- the bytes of a file, as many of its buffer as were read: none, where a file could not be
abbrev pub bytes_read : (Sizes → ℕ) → Option Sizes → List ℕ → List ℕ
bytes_read size None buffer = []
bytes_read size (Some s) buffer = take (size s) buffer

-- what it writes where the line and, in their buffers, the two files were read
abbrev pub RespondsRead : Program → List ℕ → Option Sizes → List ℕ → List ℕ → List ℕ → Type 0
RespondsRead P line files nodes roads text =
    Responds P line (is_some files) (bytes_read (λ s. s.nodes) files nodes) (bytes_read (λ s. s.roads) files roads) text
