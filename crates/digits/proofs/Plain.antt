-- What a number's decimal digits spell. Assumes nothing.
use mathlib.Core.Path.{◌≡◌, refl, sym, ap, ◌∙◌}
use mathlib.Core.List.{List, [], ◌∷◌, ◌++◌}
use mathlib.Core.Logic.{◌≢◌}
use Prim.Native.Nat.{ℕ, zero, suc, ◌+◌, ◌/◌, ◌%◌, ◌^◌, ◌<◌}
use native.Mathlib.Nat.{div-add-mod'}
use native.Mathlib.Omega.{arith}
use lib.ListN.{length, get_or, length-append}
use Rattle.digits.specs.Claims.{WrittenPlainly}
use Rattle.digits.specs.Decimal.{spell, decimal}
use Rattle.digits.specs.Digits.{AllDigits, none, more, spelled}
use Rattle.digits.proofs.Decimal.{Spelling, one, longer, spelling, tenth_lt}
use Rattle.digits.proofs.Spelled.{digits_snoc, spelled_snoc}

spell_digits : (f n : ℕ) → n < 10 ^ suc f → AllDigits (spell f n)
unfolding spell
spell_digits zero n h = more {x = 48 + n} (omega arith) (omega arith) none
spell_digits (suc f) n h = go (spelling f n) (spell_digits f (n / 10) (tenth_lt n (suc f) h))
  where
    go : {t : List ℕ} → Spelling f n t → AllDigits (spell f (n / 10)) → AllDigits t
    go (one l) ih = more {x = 48 + n} (omega arith) (omega arith) none
    go (longer l) ih = digits_snoc {x = 48 + n % 10} ih (omega arith) (omega arith)

spell_value : (f n : ℕ) → n < 10 ^ suc f → spelled 0 (spell f n) ≡ n
unfolding spell
spell_value zero n h = omega arith
spell_value (suc f) n h = go (spelling f n) (spell_value f (n / 10) (tenth_lt n (suc f) h))
  where
    go : {t : List ℕ} → Spelling f n t → spelled 0 (spell f (n / 10)) ≡ n / 10 → spelled 0 t ≡ n
    go (one l) ih = omega arith
    go (longer l) ih =
        let a = spelled_snoc 0 (spell f (n / 10)) (48 + n % 10) in
        let b = div-add-mod' n 10 in
        omega arith

-- the first of them
first_of : (xs ys : List ℕ) → 0 < length xs → get_or (xs ++ ys) 0 0 ≡ get_or xs 0 0
first_of [] ys h = absurd (omega arith)
first_of (x ∷ xs) ys h = refl

spell_some : (f n : ℕ) → 0 < length (spell f n)
unfolding spell
spell_some zero n = omega arith
spell_some (suc f) n = go (spelling f n)
  where
    go : {t : List ℕ} → Spelling f n t → 0 < length t
    go (one l) = omega arith
    go (longer l) = let b = length-append (spell f (n / 10)) ((48 + n % 10) ∷ []) in omega arith

spell_first : (f n : ℕ) → 0 < n → get_or (spell f n) 0 0 ≢ 48
unfolding spell
spell_first zero n h = λ e. omega arith
spell_first (suc f) n h = go (spelling f n) (λ l. spell_first f (n / 10) l)
  where
    go : {t : List ℕ} → Spelling f n t → (0 < n / 10 → get_or (spell f (n / 10)) 0 0 ≢ 48) → get_or t 0 0 ≢ 48
    go (one l) ih = λ e. omega arith
    go (longer l) ih = λ e. ih (omega arith) (sym (first_of (spell f (n / 10)) ((48 + n % 10) ∷ []) (spell_some f (n / 10))) ∙ e)

decimal_zero : (n : ℕ) → n ≡ 0 → decimal n ≡ 48 ∷ []
unfolding spell
decimal_zero n e = ap decimal e

pub written_plainly : WrittenPlainly
written_plainly n h =
    record { digits = spell_digits 19 n h; value = spell_value 19 n h; zero_is = decimal_zero n; no_zero = spell_first 19 n }
