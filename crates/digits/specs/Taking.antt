-- What the reader's functions ask and keep. No promise cites it.
use Rattle.std.specs.Prelude.{◌≡◌, Bool, true, false, List, ◌∷◌, ◌++◌, ◌⊎◌, ℕ, ◌≤◌, length, take, get_or}
use Rattle.digits.specs.Digits.{AllDigits, spelled}
use Rattle.digits.specs.Line.{Number, Line}

-- a byte that is no digit, as those that end a number, and the 0 that stands for the end of the bytes
abbrev pub NoDigit : ℕ → Type 0
NoDigit b = 48 ≤ b → b ≤ 57 → ⊥

-- the bytes s begin with k digits, ten at most, which spell n
pub record Run (s : List ℕ) (n k : ℕ) : Type 0 where
  pub digits : AllDigits (take k s)
  pub value : spelled 0 (take k s) ≡ n
  pub most : k ≤ 10
  pub inside : k ≤ length s

-- .. as many as there are, ten at most
pub record Ran (s : List ℕ) (n k : ℕ) : Type 0 where
  pub run : Run s n k
  pub stops : NoDigit (get_or s k 0) ⊎ (10 ≤ k)

-- the bytes s begin with the number n and the byte e, and `rest` follows
pub record Takes (s : List ℕ) (e n : ℕ) (rest : List ℕ) : Type 0 where
  pub text : List ℕ
  pub number : Number n text
  pub there : s ≡ text ++ (e ∷ rest)

-- they begin with no number and that byte
abbrev pub NoNumber : List ℕ → ℕ → Type 0
NoNumber s e = (n : ℕ) (rest : List ℕ) → Takes s e n rest → ⊥

-- .. with no line of so many numbers
abbrev pub NoLine : List ℕ → ℕ → Type 0
NoLine s count = (ns : List ℕ) → length ns ≡ count → Line ns s → ⊥

-- whether they begin with a line of so many numbers, which are given
pub record ReadsNumbers (s : List ℕ) (count : ℕ) (r : Bool) (ns : List ℕ) : Type 0 where
  pub yes : r ≡ true → Line ns s
  pub no : r ≡ false → NoLine s count
