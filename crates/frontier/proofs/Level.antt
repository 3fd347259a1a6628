-- Functions whose value at i is the greatest of their group of eight, where they change at one place. Assumes nothing.
use mathlib.Core.Path.{◌≡◌, refl, sym, ap, ◌∙◌}
use mathlib.Core.Logic.{◌≢◌}
use Prim.Native.Nat.{ℕ, ◌+◌, ◌*◌, ◌/◌, ◌≤◌, ◌<◌, max}
use native.Mathlib.Decide.{ℕ_discrete, dec_lt}
use native.Mathlib.Omega.{arith}
use Rattle.lists.specs.Lists.{Put}
use Rattle.frontier.specs.Frontier.{tree_from, ones_from, keys_from, group_of, Greatest}
use Rattle.frontier.specs.Groups.{Run}

-- where the entries above the key of v stand
abbrev pub above₁ : ℕ → ℕ
above₁ v = ones_from + v / 8

abbrev pub above₂ : ℕ → ℕ
above₂ v = 8 + v / 8 / 8

abbrev pub above₃ : ℕ → ℕ
above₃ v = tree_from + v / 8 / 8 / 8

-- ---- the greatest of a run

pub run_one : (f : ℕ → ℕ) (a b : ℕ) → a + 1 ≡ b → Run f a b (f a)
run_one f a b e = record {
  most = λ j p q. omega (arith, ap f (same j p q));
  is = (a, omega arith, omega arith, refl);
}
  where
    same : (j : ℕ) → a ≤ j → j < b → j ≡ a
    same j p q = omega arith

pub run_join : {f : ℕ → ℕ} {a b c d x y r : ℕ} → Run f a b x → Run f b c y → r ≡ max x y → c ≡ d → Run f a d r
run_join {f} {a} {b} {c} {d} {x} {y} {r} p q l e = record {
  most = λ j s t. most j s t (dec_lt j b);
  is = is p.is q.is (dec_lt x y);
}
  where
    most : (j : ℕ) → a ≤ j → j < d → Dec (j < b) → f j ≤ r
    most j s t (yes h) = omega (arith, p.most j s h)
    most j s t (no h) = omega (arith, q.most j (omega arith) (omega arith))

    is : (j : ℕ) × (a ≤ j) × (j < b) × (f j ≡ x) → (j : ℕ) × (b ≤ j) × (j < c) × (f j ≡ y) → Dec (x < y)
        → (j : ℕ) × (a ≤ j) × (j < d) × (f j ≡ r)
    is (i, s, t, u) (j, s', t', u') (yes h) = (j, omega arith, omega arith, omega arith)
    is (i, s, t, u) (j, s', t', u') (no h) = (i, s, omega arith, omega arith)

pub run_group : {f : ℕ → ℕ} {m : ℕ} (i : ℕ) → Run f (i * 8) (i * 8 + 8) m → Greatest f i m
run_group i r = record {
  most = λ j h. r.most j (omega arith) (omega arith);
  is = (r.is.0, omega (arith, r.is.1, r.is.2), r.is.3);
}

-- ---- the greatest of a group after a change

-- a change in another group
greatest_other : {f f' : ℕ → ℕ} {a x g m n : ℕ} → Greatest f g m → Put f f' a x → g ≢ a / 8 → m ≡ n → Greatest f' g n
greatest_other {f} {f'} {a} {x} {g} l p ne e = record {
  most = λ j h. omega (arith, l.most j h, p.rest j (other j h));
  is = (l.is.0, l.is.1, p.rest l.is.0 (other l.is.0 l.is.1) ∙ l.is.2 ∙ e);
}
  where
    other : (j : ℕ) → j / 8 ≡ g → j ≢ a
    other j h s = ne (sym h ∙ ap (λ (k : ℕ). k / 8) s)

-- what rises at a raises the greatest of its group
pub greatest_raise : {f f' : ℕ → ℕ} {a m : ℕ} (k : ℕ) → Greatest f (a / 8) m → Put f f' a (max (f a) k)
    → Greatest f' (a / 8) (max m k)
greatest_raise {f} {f'} {a} {m} k l p = record {
  most = λ j h. most j h (ℕ_discrete j a);
  is = is (dec_lt m k) (ℕ_discrete l.is.0 a);
}
  where
    most : (j : ℕ) → j / 8 ≡ a / 8 → Dec (j ≡ a) → f' j ≤ max m k
    most j h (yes e) = omega (arith, ap f' e, p.here, l.most a refl)
    most j h (no e) = omega (arith, p.rest j e, l.most j h)

    is : Dec (m < k) → Dec (l.is.0 ≡ a) → (j : ℕ) × (j / 8 ≡ a / 8) × (f' j ≡ max m k)
    is (yes e) d = (a, refl, omega (arith, p.here, l.most a refl))
    is (no e) (yes q) = (a, refl, omega (arith, p.here, ap f q, l.is.2))
    is (no e) (no q) = (l.is.0, l.is.1, omega (arith, p.rest l.is.0 q, l.is.2))

-- ---- all groups, but for the one whose greatest is still to be put

abbrev pub Levels : (ℕ → ℕ) → Type 0
Levels f = (i : ℕ) → tree_from ≤ i → i < keys_from → Greatest f (group_of i) (f i)

-- x is due at a: once it stands there, only the group of a may be wrong
pub record Due (f : ℕ → ℕ) (a x : ℕ) : Type 0 where
  pub rest : (i : ℕ) → tree_from ≤ i → i < keys_from → i ≢ a → Greatest f (group_of i) (f i)
  pub own : a < keys_from → Greatest f (group_of a) x

-- a key stands below all levels, so any may be put
pub due_key : {f : ℕ → ℕ} {a x : ℕ} → Levels f → keys_from ≤ a → Due f a x
due_key l h = record { rest = λ i t b _. l i t b; own = λ b. absurd (omega arith) }

-- x is put, and the groups other than its own are right
due_others : {f f' : ℕ → ℕ} {a x : ℕ} → Due f a x → Put f f' a x
    → (i : ℕ) → tree_from ≤ i → i < keys_from → group_of i ≢ a / 8 → Greatest f' (group_of i) (f' i)
due_others {f} {f'} {a} {x} d p i t b ne = go (ℕ_discrete i a)
  where
    go : Dec (i ≡ a) → Greatest f' (group_of i) (f' i)
    go (yes e) = rw e (greatest_other (d.own (omega arith)) p (omega arith) (sym p.here))
    go (no e) = greatest_other (d.rest i t b e) p ne (sym (p.rest i e))

-- x is put, and the greatest of its group is due at b
pub due_next : {f f' : ℕ → ℕ} {a b x r : ℕ} → Due f a x → Put f f' a x → Greatest f' (a / 8) r → a / 8 ≡ group_of b → Due f' b r
due_next d p g e = record {
  rest = λ i t h ne. due_others d p i t h (λ s. ne (omega arith));
  own = λ _. rw e at g;
}

-- the same where each place gets the larger of its value and k
pub due_raise : {f f' : ℕ → ℕ} {a b : ℕ} (k : ℕ) → Due f a (max (f a) k) → Put f f' a (max (f a) k)
    → a / 8 ≡ group_of b → tree_from ≤ b → b < keys_from → Due f' b (max (f' b) k)
due_raise {f} {f'} {a} {b} k d p e t h =
    let ne : b ≢ a = λ s. omega arith in
    let g : Greatest f (a / 8) (f b) = rw e (d.rest b t h ne) in
    rw (p.rest b ne) (due_next d p (greatest_raise k g p) e)

-- the top level is the end: all groups are right
pub due_top : {f f' : ℕ → ℕ} {a x : ℕ} → Due f a x → Put f f' a x → a < 8 → Levels f'
due_top d p h i t b = due_others d p i t b (λ s. omega arith)
