-- A number written: in decimal digits, where 48 is the byte of 0, and on a line.
use Rattle.std.specs.Prelude.{cond, List, [], ◌∷◌, ◌++◌, ℕ, zero, suc, ◌+◌, ◌/◌, ◌%◌, ltb, ℤ, pos, negsuc}
use Rattle.digits.specs.Line.{space, newline}

-- n in decimal digits without leading zeros, for an n of at most k + 1 digits
unfoldable pub spell : ℕ → ℕ → List ℕ
spell zero n = (48 + n) ∷ []
spell (suc k) n = cond (ltb n 10) ((48 + n) ∷ []) (spell k (n / 10) ++ ((48 + n % 10) ∷ []))

-- every number of an answer is below 2^64 and has at most twenty digits
abbrev pub decimal : ℕ → List ℕ
decimal n = spell 19 n

-- a number on a line
abbrev pub number_line : ℕ → List ℕ
number_line n = decimal n ++ (newline ∷ [])

-- a word with a space and its number, on a line
abbrev pub word_line : List ℕ → ℕ → List ℕ
word_line w n = w ++ (space ∷ number_line n)

-- a signed number on a line: a minus sign, the byte 45, before the size of a negative one
abbrev pub minus : ℕ
minus = 45

abbrev pub signed_line : ℤ → List ℕ
signed_line (pos n) = number_line n
signed_line (negsuc n) = minus ∷ number_line (suc n)
