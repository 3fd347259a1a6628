-- What is proved of numbers read and written. The proofs are in proofs/.
use Rattle.std.specs.Prelude.{◌≡◌, List, [], ◌∷◌, ◌++◌, ◌≢◌, ℕ, ◌*◌, ◌^◌, ◌≤◌, ◌<◌, length, get_or}
use Rattle.digits.specs.Decimal.{decimal}
use Rattle.digits.specs.Digits.{AllDigits, spelled}
use Rattle.digits.specs.Line.{Line}

-- bytes that begin with a line begin with one line
abbrev pub OneReading : Type 0
OneReading = (ns ms s : List ℕ) → Line ns s → Line ms s → ns ≡ ms

-- what follows a line is ignored
abbrev pub RestIsFree : Type 0
RestIsFree = (ns s rest : List ℕ) → Line ns s → Line ns (s ++ rest)

-- a line of k numbers has at most 11 k bytes, so that a program need read no more
pub record Within (ns s : List ℕ) : Type 0 where
  pub line : List ℕ
  pub rest : List ℕ
  pub whole : s ≡ line ++ rest
  pub reads : Line ns line
  pub short : length line ≤ 11 * length ns

abbrev pub LineIsShort : Type 0
LineIsShort = (ns s : List ℕ) → Line ns s → Within ns s

-- a number is written in digits that spell it, and none but the digit of 0 itself begins with 0
pub record Plain (n : ℕ) (t : List ℕ) : Type 0 where
  pub digits : AllDigits t
  pub value : spelled 0 t ≡ n
  pub zero_is : n ≡ 0 → t ≡ 48 ∷ []
  pub no_zero : 0 < n → get_or t 0 0 ≢ 48

abbrev pub WrittenPlainly : Type 0
WrittenPlainly = (n : ℕ) → n < 10 ^ 20 → Plain n (decimal n)
