-- Lists of numbers, read as functions of the place: past its end a list has 0. No entry's promise cites this file.
use Rattle.std.specs.Prelude.{◌≡◌, List, ◌≢◌, ℕ, zero, suc, ◌+◌, get_or}

abbrev pub entry : List ℕ → ℕ → ℕ
entry xs i = get_or xs i 0

-- every entry is 0
abbrev pub AllZero : List ℕ → Type 0
AllZero xs = (i : ℕ) → entry xs i ≡ 0

-- f' has the values of f
abbrev pub Same : (ℕ → ℕ) → (ℕ → ℕ) → Type 0
Same f f' = (i : ℕ) → f' i ≡ f i

-- f' is f with x at a
pub record Put (f f' : ℕ → ℕ) (a x : ℕ) : Type 0 where
  pub here : f' a ≡ x
  pub rest : (i : ℕ) → i ≢ a → f' i ≡ f i

-- 1 for 0, and 0 for every other number
abbrev pub is_zero : ℕ → ℕ
is_zero zero = 1
is_zero (suc x) = 0

-- how many of the first n values of f are 0
abbrev pub zeros : (ℕ → ℕ) → ℕ → ℕ
zeros f zero = 0
zeros f (suc n) = is_zero (f n) + zeros f n
