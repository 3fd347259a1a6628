-- Laws of a number's decimal digits: they are those that the kit writes, and how many they are. Assumes nothing.
use mathlib.Core.Path.{◌≡◌, refl, ap, subst}
use mathlib.Core.Bool.{Bool, true, false, cond}
use mathlib.Core.List.{List, [], ◌∷◌, ◌++◌}
use Prim.Native.Nat.{ℕ, zero, suc, ◌+◌, ◌-◌, ◌*◌, ◌/◌, ◌%◌, ◌^◌, ◌≤◌, ◌<◌}
use native.Mathlib.Nat.{pow-succ', one-le-pow, pow-le-pow_right}
use native.Mathlib.Decide.{dec_lt}
use native.Mathlib.Omega.{arith}
use borrow.Author.Tests.{lt-ltb, le-ltb, ltb-true, ltb-false}
use lib.Dec.{ltb, lit<}
use lib.ListN.{length, length-append}
use Rattle.io.specs.Digits.{last_digits, hex_digit_ascii, IsDigitCount}
use Rattle.digits.specs.Line.{newline}
use Rattle.digits.specs.Decimal.{spell, decimal, number_line}

-- ---- a number is one digit, or the digits of its tenth and one more
pub data Spelling (f n : ℕ) : List ℕ → Type 0 where
  one : n < 10 → Spelling f n ((48 + n) ∷ [])
  longer : 10 ≤ n → Spelling f n (spell f (n / 10) ++ ((48 + n % 10) ∷ []))

pub spelling : (f n : ℕ) → Spelling f n (spell (suc f) n)
unfolding spell
spelling f n = go (ltb n 10) (ltb-true n 10) (ltb-false n 10)
  where
    go : (b : Bool) → (b ≡ true → n < 10) → (b ≡ false → 10 ≤ n)
        → Spelling f n (cond b ((48 + n) ∷ []) (spell f (n / 10) ++ ((48 + n % 10) ∷ [])))
    go true p q = one (p refl)
    go false p q = longer (q refl)

pub tenth_lt : (n k : ℕ) → n < 10 ^ suc k → n / 10 < 10 ^ k
tenth_lt n k h = let p : 10 ^ suc k ≡ 10 * 10 ^ k = pow-succ' 10 k in omega arith

-- ---- the kit's digits
glyph_is : (d : ℕ) → d < 10 → hex_digit_ascii d ≡ 48 + d
glyph_is d h = rw (lt-ltb d 10 h)

-- n of exactly k + 1 digits
same_digits : (k f n : ℕ) → k ≤ f → n < 10 ^ suc k → (0 < k → 10 ^ k ≤ n) → last_digits 10 (suc k) n ≡ spell f n
unfolding spell
same_digits zero zero n l h m = let e : n % 10 ≡ n = omega arith in rw (glyph_is (n % 10) (omega arith), e)
same_digits zero (suc f) n l h m =
    let e : n % 10 ≡ n = omega arith in
    let b = lt-ltb n 10 (omega arith) in
    rw (glyph_is (n % 10) (omega arith), e, b)
same_digits (suc k) zero n l h m = absurd (omega arith)
same_digits (suc k) (suc f) n l h m =
    let q : 10 ^ suc k ≡ 10 * 10 ^ k = pow-succ' 10 k in
    let t = one-le-pow k 10 (omega arith) in
    let r = m (omega arith) in
    let b = le-ltb n 10 (omega arith) in
    let ih = same_digits k f (n / 10) (omega arith) (tenth_lt n (suc k) h) (λ z. omega arith) in
    rw (glyph_is (n % 10) (omega arith), b) (ap (λ (u : List ℕ). u ++ ((48 + n % 10) ∷ [])) ih)

-- a number of 64 bits has at most twenty
pub at_most_twenty : (n k : ℕ) → n < 2 ^ 64 → IsDigitCount 10 1 n k → k ≤ 20
at_most_twenty n k h f = go (dec_lt 20 k)
  where
    go : Dec (20 < k) → k ≤ 20
    go (yes l) =
        let a = f.2 (omega arith) in
        let b : 10 ^ 20 ≤ 10 ^ (k - 1) = pow-le-pow_right {n = 10} (lit< tt) {i = 20} {j = k - 1} (omega arith) in
        absurd (omega arith)
    go (no l) = omega arith

pub decimal_is : (n k : ℕ) → n < 2 ^ 64 → IsDigitCount 10 1 n k → last_digits 10 k n ≡ decimal n
decimal_is n zero h f = absurd (omega (arith, f.0))
decimal_is n (suc k) h f =
    let l = at_most_twenty n (suc k) h f in
    same_digits k 19 n (omega arith) f.1 (λ z. subst (λ (j : ℕ). 10 ^ j ≤ n) (omega arith) (f.2 (omega arith)))

-- ---- how many there are
spell_length : (f n k : ℕ) → n < 10 ^ suc k → length (spell f n) ≤ suc k
unfolding spell
spell_length zero n k h = omega arith
spell_length (suc f) n k h = go k h (spelling f n) (λ j l. spell_length f (n / 10) j l)
  where
    go : {t : List ℕ} (k : ℕ) → n < 10 ^ suc k → Spelling f n t → ((j : ℕ) → n / 10 < 10 ^ suc j → length (spell f (n / 10)) ≤ suc j)
        → length t ≤ suc k
    go k h (one l) ih = omega arith
    go zero h (longer l) ih = absurd (omega arith)
    go (suc k) h (longer l) ih =
        let a = ih k (tenth_lt n (suc k) h) in
        let b = length-append (spell f (n / 10)) ((48 + n % 10) ∷ []) in
        omega arith

-- a number of at most k + 1 digits, on a line: one of 16 bits has at most five, one of 32 bits at most ten
line_length : (n k : ℕ) → n < 10 ^ suc k → length (number_line n) ≤ suc (suc k)
line_length n k h = let l = length-append (decimal n) (newline ∷ []) in omega (arith, spell_length 19 n k h)

pub short_line : (n : ℕ) → n < 2 ^ 16 → length (number_line n) ≤ 6
short_line n h = line_length n 4 (omega arith)

pub wide_line : (n : ℕ) → n < 2 ^ 32 → length (number_line n) ≤ 11
wide_line n h = line_length n 9 (omega arith)
