-- A number taken off the line: digit by digit, and the ways in which it ends. Assumes nothing.
use mathlib.Core.Path.{◌≡◌, refl, sym, ap, ◌∙◌, subst}
use mathlib.Core.List.{List, [], ◌∷◌, ◌++◌, append-nil}
use mathlib.Core.Logic.{◌⊎◌, inl, inr}
use Prim.Native.Nat.{ℕ, ◌+◌, ◌-◌, ◌*◌, ◌^◌, ◌≤◌, ◌<◌}
use native.Mathlib.Nat.{add-zero}
use native.Mathlib.Numerals.{add-one}
use native.Mathlib.Omega.{arith}
use lib.ListN.{length, take, drop, get_or, length-append, length-take}
use lib.Seq.{take-suc, get_or-drop}
use Rattle.std.proofs.lemmas.List.{take-append-drop}
use Rattle.digits.specs.Digits.{AllDigits, none, more}
use Rattle.digits.specs.Taking.{NoDigit, Run, Ran, Takes, NoNumber}
use Rattle.digits.proofs.Spelled.{digits_snoc, spelled_snoc, ten_digits, past}

head_of : (s : List ℕ) (k : ℕ) → get_or (drop k s) 0 0 ≡ get_or s k 0
head_of s k = get_or-drop k s 0 0 ∙ ap (λ (j : ℕ). get_or s j 0) (add-zero k)

-- ---- the digits
pub run_none : (s : List ℕ) → Run s 0 0
run_none s = record { digits = none; value = refl; most = omega arith; inside = omega arith }

-- their number is below 10^10
pub run_small : {s : List ℕ} {n k : ℕ} → Run s n k → n < 10 ^ 10
run_small {s} {k} r = let p = ten_digits r.digits (omega (arith, length-take k s, r.most)) in omega (arith, r.value)

pub run_more : {s : List ℕ} {n k b d : ℕ} → Run s n k → b ≡ get_or s k 0 → 48 ≤ b → b ≤ 57 → k < length s → k < 10 → d ≡ b - 48
    → Run s (n * 10 + d) (k + 1)
run_more {s} {n} {k} {b} {d} r e lo hi l m is =
    let t : take (k + 1) s ≡ take k s ++ (b ∷ []) = rw (add-one k, e) (take-suc s k 0 l) in
    record {
      digits = rw t (digits_snoc r.digits lo hi);
      value = rw t (spelled_snoc 0 (take k s) b ∙ (λ j. r.value j * 10 + sym is j));
      most = omega arith;
      inside = omega arith;
    }

-- ---- a number of the line ends where the digits do
no_more : (s : List ℕ) (k : ℕ) (m after : List ℕ) → NoDigit (get_or s k 0) ⊎ (10 ≤ k) → k ≤ length s → length (take k s ++ m) ≤ 10
    → AllDigits m → drop k s ≡ m ++ after → m ≡ []
no_more s k m after f l h none e = refl
no_more s k m after (inl f) l h (more {x} lo hi d) e =
    let p : get_or s k 0 ≡ x = sym (head_of s k) ∙ ap (λ (y : List ℕ). get_or y 0 0) e in
    absurd (f (omega arith) (omega arith))
no_more s k m after (inr f) l h (more lo hi d) e =
    let p = length-append (take k s) m in
    let q = length-take k s in
    absurd (omega arith)

record Same (t u rest after : List ℕ) : Type 0 where
  pub digits_are : u ≡ t
  pub rest_is : rest ≡ after

same : {s : List ℕ} {n k w e : ℕ} {x : List ℕ} → Ran s n k → NoDigit e → (t : Takes s e w x) → Same (take k s) t.text (drop k s) (e ∷ x)
same {s} {k} {e} {x} r f t =
    let m = t.number in
    let p = past (drop k s) x e r.run.digits m.digits f (take-append-drop k s ∙ t.there) in
    let z : p.more_digits ≡ [] =
    no_more s k p.more_digits (e ∷ x) r.stops r.run.inside (subst (λ (y : List ℕ). length y ≤ 10) p.whole m.most) p.digits p.left in
    record {
      digits_are = p.whole ∙ ap (λ (y : List ℕ). take k s ++ y) z ∙ append-nil (take k s);
      rest_is = p.left ∙ ap (λ (y : List ℕ). y ++ (e ∷ x)) z;
    }

-- ---- the ends of `take_number`
pub take_none : {s : List ℕ} {n k e : ℕ} → Ran s n k → NoDigit e → k ≡ 0 → NoNumber s e
take_none {s} {k} r f z w x t =
    let l = ap length (same r f t).digits_are in
    let h = t.number.some in
    let o = length-take k s in
    omega arith

pub take_other : {s : List ℕ} {n k e b : ℕ} {after : List ℕ} → Ran s n k → NoDigit e → drop k s ≡ b ∷ after → (b ≡ e → ⊥) → NoNumber s e
take_other r f p g w x t = let q = (same r f t).rest_is in g (cc)

pub take_end : {s : List ℕ} {n k e : ℕ} → Ran s n k → NoDigit e → length (drop k s) ≡ 0 → NoNumber s e
take_end r f p w x t = let l = ap length (same r f t).rest_is in omega arith
