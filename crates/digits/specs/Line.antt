-- The line of numbers that a program reads.
use Rattle.std.specs.Prelude.{◌≡◌, List, [], ◌∷◌, ◌++◌, ℕ, ◌≤◌, length}
use Rattle.digits.specs.Digits.{AllDigits, spelled}

-- the bytes of a space and of a newline
abbrev pub space : ℕ
space = 32

abbrev pub newline : ℕ
newline = 10

-- the number n of the line, by the bytes t: one to ten decimal digits, leading zeros allowed
pub record Number (n : ℕ) (t : List ℕ) : Type 0 where
  pub digits : AllDigits t
  pub some : 1 ≤ length t
  pub most : length t ≤ 10
  pub value : spelled 0 t ≡ n

-- the bytes s begin with a line of these numbers: one space between and a newline after. What follows that line is free
pub data Line : List ℕ → List ℕ → Type 0 where
  last : {n : ℕ} {s : List ℕ} (t rest : List ℕ) → Number n t → s ≡ t ++ (newline ∷ rest) → Line (n ∷ []) s
  then : {n m : ℕ} {ns s : List ℕ} (t rest : List ℕ) → Number n t → s ≡ t ++ (space ∷ rest) → Line (m ∷ ns) rest
      → Line (n ∷ m ∷ ns) s
