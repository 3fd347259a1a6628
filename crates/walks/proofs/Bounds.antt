-- What bounds the labels of all walks, by one induction along a walk. Assumes nothing.
use mathlib.Core.Path.{◌≡◌, sym, ◌∙◌, ap, subst}
use mathlib.Core.List.{List}
use mathlib.Core.Logic.{◌⊎◌, inl, inr}
use Prim.Native.Nat.{ℕ, ◌+◌, ◌≤◌, ◌<◌}
use native.Mathlib.Decide.{dec_lt}
use native.Mathlib.Nat.{le_trans}
use native.Mathlib.Omega.{arith}
use Rattle.walks.specs.Claims.{OneBest, ClosedBounds, Front, EarlyStop}
use Rattle.walks.specs.Label.{Net, Laws, after, Best}
use Rattle.walks.specs.Walk.{Walk, stay, go}

-- what holds at the start and is kept by every road holds at the end of every walk
along : (N : Net) (P : ℕ → ℕ → Type 0)
    → ((k l : ℕ) → k < N.roads.count → P (N.roads.tail k) l → P (N.roads.head k) (N.step k l))
    → {v w : ℕ} {ks : List ℕ} (l : ℕ) → Walk N.roads v ks w → P v l → P w (after N ks l)
along N P keeps l stay p = p
along N P keeps l (go k h e w) p = along N P keeps (N.step k l) w (keeps k l h (subst (λ u. P u l) (sym e) p))

pub closed_bounds : ClosedBounds
closed_bounds N psi L laws kept v l w ks h walk =
    along N (λ u x. x ≤ L u) (λ k x c q. le_trans (laws.mono k x (L (N.roads.tail k)) q) (kept k c)) l walk h

-- the label x at v is bounded: by a settled label, or by t's key, or it is none
data Under (psi : ℕ → ℕ) (S : ℕ → Type 0) (L : ℕ → ℕ) (t v x : ℕ) : Type 0 where
  settled : S v → x ≤ L v → Under psi S L t v x
  key : x + psi v ≤ L t + psi t → Under psi S L t v x
  none : x ≡ 0 → Under psi S L t v x

module _ (N : Net) (psi : ℕ → ℕ) (S : ℕ → Type 0) (L : ℕ → ℕ) (t : ℕ) (laws : Laws N psi) (f : Front N psi S L t) where
  under : (v x : ℕ) → x ≤ L v → Dec (S v) → Dec (0 < x) → Under psi S L t v x
  under v x h (yes s) _ = settled s h
  under v x h (no s) (yes p) = key (omega (arith, f.below v s (omega arith)))
  under v x h (no s) (no p) = none (omega arith)

  -- a road from a junction that is not settled
  beyond : (k x : ℕ) → k < N.roads.count → (x ≡ 0) ⊎ (x + psi (N.roads.tail k) ≤ L t + psi t) → Dec (0 < N.step k x)
      → Under psi S L t (N.roads.head k) (N.step k x)
  beyond k x h o (no p) = none (omega arith)
  beyond k x h (inl z) (yes p) = none (ap (N.step k) z ∙ laws.none k)
  beyond k x h (inr b) (yes p) = key (omega (arith, laws.no_gain k x h p))

  under_step : (k x : ℕ) → k < N.roads.count → Under psi S L t (N.roads.tail k) x
      → Under psi S L t (N.roads.head k) (N.step k x)
  under_step k x h (settled s b) =
      under _ _ (le_trans (laws.mono k x (L (N.roads.tail k)) b) (f.relaxed k h s)) (f.decided _) (dec_lt _ _)
  under_step k x h (key b) = beyond k x h (inr b) (dec_lt _ _)
  under_step k x h (none z) = beyond k x h (inl z) (dec_lt _ _)

  under_t : (x : ℕ) → Under psi S L t t x → x ≤ L t
  under_t x (settled s b) = absurd (f.open_t s)
  under_t x (key b) = omega arith
  under_t x (none z) = omega arith

  under_walk : (v l : ℕ) (ks : List ℕ) → l ≤ L v → Walk N.roads v ks t → after N ks l ≤ L t
  under_walk v l ks h walk = under_t _ (along N (Under psi S L t) under_step l walk (under v l h (f.decided v) (dec_lt _ _)))

pub early_stop : EarlyStop
early_stop N psi S L t laws f = under_walk N psi S L t laws f

-- a label that is reached is no more than any best label
reached_most : (N : Net) (v l w x y : ℕ) → Best N v l w x → Best N v l w y → Dec (0 < x) → x ≤ y
reached_most N v l w x y b c (yes p) =
    let r = b.reached p in
    omega (arith, r.brings, c.most r.by r.walk)
reached_most N v l w x y b c (no p) = omega arith

pub one_best : OneBest
one_best N v l w x y b c =
    omega (arith, reached_most N v l w x y b c (dec_lt 0 x), reached_most N v l w y x c b (dec_lt 0 y))
