-- What is proved of a line of numbers: how large they are, that the bytes have one, what follows it, how long it is.
-- Assumes nothing.
use mathlib.Core.Path.{◌≡◌, refl, sym, ap, ◌∙◌, subst}
use mathlib.Core.List.{List, [], ◌∷◌, ◌++◌, append_assoc}
use Prim.Native.Nat.{ℕ, zero, suc, ◌^◌, ◌<◌}
use native.Mathlib.Omega.{arith}
use lib.Dec.{lit<}
use lib.ListN.{get_or, length-append}
use Rattle.digits.specs.Claims.{OneReading, RestIsFree, LineIsShort}
use Rattle.digits.specs.Digits.{spelled}
use Rattle.digits.specs.Line.{space, newline, Number, Line, last, then}
use Rattle.digits.specs.Taking.{NoDigit}
use Rattle.digits.proofs.Spelled.{ten_digits, cut}

no_digit_space : NoDigit space
no_digit_space lo hi = omega arith

no_digit_newline : NoDigit newline
no_digit_newline lo hi = omega arith

-- a number of the line is below 10^10
number_lt : {n : ℕ} {t : List ℕ} → Number n t → n < 10 ^ 10
number_lt m = let h = ten_digits m.digits m.most in omega (arith, m.value)

-- .. and past the last of them 0 stands for one
pub line_small : {ns s : List ℕ} → Line ns s → (i : ℕ) → get_or ns i 0 < 10 ^ 10
line_small (last t x a e) zero = number_lt a
line_small (last t x a e) (suc i) = lit< tt
line_small (then t x a e more) zero = number_lt a
line_small (then t x a e more) (suc i) = line_small more i

-- two numbers of the line by the same bytes are one
one_number : {n m : ℕ} {t u : List ℕ} → Number n t → Number m u → t ≡ u → n ≡ m
one_number {m} {u} a b e = sym a.value ∙ subst (λ (t : List ℕ). spelled 0 t ≡ m) (sym e) b.value

-- ---- one line
lines_agree : {ns ms s : List ℕ} → Line ns s → Line ms s → ns ≡ ms
lines_agree (last t x a e) (last u y b f) =
    let c = cut newline newline x y a.digits b.digits no_digit_newline no_digit_newline (sym e ∙ f) in
    let p = one_number a b c.front in
    λ i. p i ∷ []
lines_agree (last t x a e) (then u y b f more) =
    let c = cut newline space x y a.digits b.digits no_digit_newline no_digit_space (sym e ∙ f) in
    let z = c.ends in
    absurd (omega arith)
lines_agree (then t x a e more) (last u y b f) =
    let c = cut space newline x y a.digits b.digits no_digit_space no_digit_newline (sym e ∙ f) in
    let z = c.ends in
    absurd (omega arith)
lines_agree (then {m} {ns} t x a e more) (then u y b f others) =
    let c = cut space space x y a.digits b.digits no_digit_space no_digit_space (sym e ∙ f) in
    let p = one_number a b c.front in
    let q = lines_agree (subst (λ (z : List ℕ). Line (m ∷ ns) z) c.rest more) others in
    λ i. p i ∷ q i

pub one_reading : OneReading
one_reading ns ms s a b = lines_agree a b

-- ---- what follows the line, and how long the line is
pub rest_is_free : RestIsFree
rest_is_free ns s rest (last t x a e) = last t (x ++ rest) a (ap (λ (y : List ℕ). y ++ rest) e ∙ append_assoc t (newline ∷ x) rest)
rest_is_free ns s rest (then {m} {ns = ms} t x a e more) =
    then t (x ++ rest) a (ap (λ (y : List ℕ). y ++ rest) e ∙ append_assoc t (space ∷ x) rest) (rest_is_free (m ∷ ms) x rest more)

pub line_is_short : LineIsShort
line_is_short ns s (last t x a e) =
    let l = length-append t (newline ∷ []) in
    let m = a.most in
    record {
      line = t ++ (newline ∷ []);
      rest = x;
      whole = e ∙ sym (append_assoc t (newline ∷ []) x);
      reads = last t [] a refl;
      short = omega arith;
    }
line_is_short ns s (then {m} {ns = ms} t x a e more) =
    let w = line_is_short (m ∷ ms) x more in
    let l = length-append t (space ∷ w.line) in
    let h = a.most in
    let k = w.short in
    record {
      line = t ++ (space ∷ w.line);
      rest = w.rest;
      whole = e ∙ ap (λ (y : List ℕ). t ++ (space ∷ y)) w.whole ∙ sym (append_assoc t (space ∷ w.line) w.rest);
      reads = then t w.line a refl w.reads;
      short = omega arith;
    }
