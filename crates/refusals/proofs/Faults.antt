-- Laws of the order of refusals: the first fault of two, and of the places from k on. Assumes nothing.
use Rattle.std.specs.Prelude.{Err, Ok}
use mathlib.Core.Path.{◌≡◌, refl, ap, ◌∙◌}
use mathlib.Core.Bool.{Bool, true, false, ◌&&◌}
use Prim.Native.Nat.{ℕ, zero, suc, ◌+◌, ◌-◌, ◌≤◌, ◌<◌}
use mathlib.Core.Logic.{◌⊎◌, inl, inr, ⊎_elim}
use native.Mathlib.Omega.{arith}
use native.Mathlib.Decide.{ℕ_discrete}
use Rattle.refusals.specs.Order.{Checked, unless, first, first_from}
use Rattle.refusals.specs.declared.Refusal.{Refusal}

-- three tests in turn
pub first_assoc : (a b c : Checked) → first (first a b) c ≡ first a (first b c)
first_assoc (Ok tt) b c = refl
first_assoc (Err r) b c = refl

-- ---- what a passed test tells

pub first_passed : (a b : Checked) → first a b ≡ Ok tt → (a ≡ Ok tt) × (b ≡ Ok tt)
first_passed (Ok tt) b e = (refl, e)
first_passed (Err r) b e = let z : ◌≡◌ {A = ℕ} 0 1 = cc in absurd (omega arith)

pub unless_passed : (t : Bool) (r : Refusal) → unless t r ≡ Ok tt → t ≡ true
unless_passed true r e = refl
unless_passed false r e = let z : ◌≡◌ {A = ℕ} 0 1 = cc in absurd (omega arith)

pub both_true : (a b : Bool) → (a && b) ≡ true → (a ≡ true) × (b ≡ true)
both_true true b e = (refl, e)
both_true false b e = let z : ◌≡◌ {A = ℕ} 0 1 = cc in absurd (omega arith)

pub same_refusal : {x : Checked} {r s : Refusal} → x ≡ Err r → x ≡ Err s → r ≡ s
same_refusal e f = cc

pub not_both : {X : Type 0} {x : Checked} {r : Refusal} → x ≡ Ok tt → x ≡ Err r → X
not_both e f = let z : ◌≡◌ {A = ℕ} 0 1 = cc in absurd (omega arith)

-- ---- from place k on, of n

module _ (f : ℕ → Checked) (n k : ℕ) where
  turn : k < n → first_from f (n - k) k ≡ first (f k) (first_from f (n - (k + 1)) (k + 1))
  unfolding first_from
  turn h = let p : n - k ≡ suc (n - (k + 1)) = omega arith in ap (λ (m : ℕ). first_from f m k) p

  pub from_go : k < n → f k ≡ Ok tt → first_from f (n - k) k ≡ first_from f (n - (k + 1)) (k + 1)
  from_go h e = turn h ∙ simp e

  pub from_stop : (r : Refusal) → k < n → f k ≡ Err r → first_from f (n - k) k ≡ Err r
  from_stop r h e = turn h ∙ simp e

  pub from_end : n ≤ k → first_from f (n - k) k ≡ Ok tt
  unfolding first_from
  from_end h = let p : n - k ≡ 0 = omega arith in ap (λ (m : ℕ). first_from f m k) p

from_passed : (f : ℕ → Checked) (n j k : ℕ) → first_from f n j ≡ Ok tt → j ≤ k → k < j + n → f k ≡ Ok tt
unfolding first_from
from_passed f zero j k e h l = absurd (omega arith)
from_passed f (suc n) j k e h l =
    let a = first_passed _ _ e in
    go a.0 (λ g. from_passed f n (j + 1) k a.1 g (omega arith)) (ℕ_discrete j k)
  where
    go : f j ≡ Ok tt → (j + 1 ≤ k → f k ≡ Ok tt) → Dec (j ≡ k) → f k ≡ Ok tt
    go p more (yes q) = rw q at p
    go p more (no q) = more (omega arith)

-- where no place fails, each passes
pub all_passed : (f : ℕ → Checked) (n : ℕ) → first_from f n 0 ≡ Ok tt → (k : ℕ) → k < n → f k ≡ Ok tt
all_passed f n e k h = from_passed f n 0 k e (omega arith) (omega arith)

pub none_fails : (f : ℕ → Checked) (n k : ℕ) → ((j : ℕ) → k ≤ j → j < k + n → f j ≡ Ok tt) → first_from f n k ≡ Ok tt
unfolding first_from
none_fails f zero k h = refl
none_fails f (suc n) k h =
    ap (λ (c : Checked). first c (first_from f n (k + 1))) (h k (omega arith) (omega arith))
    ∙ none_fails f n (k + 1) (λ j a b. h j (omega arith) (omega arith))

-- ---- where a place fails

pub record Found (f : ℕ → Checked) (r : Refusal) : Type 0 where
  pub at : ℕ
  pub fails : f at ≡ Err r

first_refused : (a b : Checked) {r : Refusal} → first a b ≡ Err r → (a ≡ Err r) ⊎ (b ≡ Err r)
first_refused (Ok tt) b e = inr e
first_refused (Err q) b e = inl e

pub from_found : (f : ℕ → Checked) (n k : ℕ) {r : Refusal} → first_from f n k ≡ Err r → Found f r
unfolding first_from
from_found f zero k e = let z : ◌≡◌ {A = ℕ} 0 1 = cc in absurd (omega arith)
from_found f (suc n) k e = ⊎_elim (λ a. record { at = k; fails = a }) (λ b. from_found f n (k + 1) b) (first_refused _ _ e)
