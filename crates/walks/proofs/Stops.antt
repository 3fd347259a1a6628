-- The stops of walks that visit no junction twice: such a walk is empty where it returns to its source, and none goes on
-- past its target. A walk along which some rank rises is one. Assumes nothing.
use mathlib.Core.Path.{◌≡◌, refl, sym, ap, ◌∙◌, subst}
use mathlib.Core.List.{List, [], ◌∷◌, ◌++◌}
use Prim.Native.Nat.{ℕ, zero, suc, ◌≤◌, ◌<◌}
use native.Mathlib.Omega.{arith}
use lib.ListN.{length}
use Rattle.walks.specs.Walk.{Roads, Walk, stay, go, stop_at, Once}

module _ {R : Roads} where
  -- the last stop of a walk is its end
  stop_end : {v w : ℕ} {ks : List ℕ} → Walk R v ks w → stop_at R v ks (length ks) ≡ w
  stop_end stay = refl
  stop_end (go k h e w) = stop_end w

  pub once_closed : {v w : ℕ} {ks : List ℕ} → Walk R v ks w → v ≡ w → Once R v ks → ks ≡ []
  once_closed stay e o = refl
  once_closed (go {ks = ks} k h f w) e o =
      absurd (o.apart 0 (suc (length ks)) (omega arith) (omega arith) (e ∙ sym (stop_end w)))

  once_rest : {v k : ℕ} {ks : List ℕ} → Once R v (k ∷ ks) → Once R (R.head k) ks
  once_rest o = record { apart = λ i j h l. o.apart (suc i) (suc j) (omega arith) (omega arith) }

  -- of two such walks between the same junctions neither begins with the other, unless they are the same
  pub once_begins : {v w u : ℕ} {ks js : List ℕ} (xs ys : List ℕ) → Walk R v ks w → Walk R v js u → w ≡ u
      → Once R v ks → Once R v js → ks ++ xs ≡ js ++ ys → ks ≡ js
  once_begins xs ys stay b e o p q = sym (once_closed b e p)
  once_begins xs ys (go k h f a) stay e o p q = once_closed (go k h f a) (sym e) o
  once_begins {u} xs ys (go {ks = ks} k h f a) (go {ks = js} j l g b) e o p q =
      let c : j ≡ k = cc in
      let d : ks ++ xs ≡ js ++ ys = cc in
      let b' = subst (λ i. Walk R (R.head i) js u) c b in
      let p' = subst (λ i. Once R (R.head i) js) c (once_rest p) in
      let same : k ∷ ks ≡ j ∷ js = cc (once_begins xs ys a b' e (once_rest o) p' d) in
      same

-- ---- walks along which a rank rises

-- the rank rises along ks from v
pub Rising : Roads → (ℕ → ℕ) → ℕ → List ℕ → Type 0
Rising R rank v [] = Unit {0}
Rising R rank v (k ∷ ks) = (rank v < rank (R.head k)) × Rising R rank (R.head k) ks

module _ (R : Roads) (rank : ℕ → ℕ) where
  pub rising_none : (v : ℕ) → Rising R rank v []
  unfolding Rising
  rising_none v = tt

  pub rising_more : (v k : ℕ) (ks : List ℕ) → rank v < rank (R.head k) → Rising R rank (R.head k) ks → Rising R rank v (k ∷ ks)
  unfolding Rising
  rising_more v k ks h r = (h, r)

  rising_from : (v : ℕ) (ks : List ℕ) (j : ℕ) → Rising R rank v ks → rank v ≤ rank (stop_at R v ks j)
  unfolding Rising
  rising_from v [] j r = omega arith
  rising_from v (k ∷ ks) zero r = omega arith
  rising_from v (k ∷ ks) (suc j) r = omega (arith, rising_from (R.head k) ks j r.1, r.0)

  rising_lt : (v : ℕ) (ks : List ℕ) (i j : ℕ) → Rising R rank v ks → i < j → j ≤ length ks
      → rank (stop_at R v ks i) < rank (stop_at R v ks j)
  unfolding Rising
  rising_lt v [] i j r h f = absurd (omega arith)
  rising_lt v (k ∷ ks) i zero r h f = absurd (omega arith)
  rising_lt v (k ∷ ks) zero (suc j) r h f = omega (arith, rising_from (R.head k) ks j r.1, r.0)
  rising_lt v (k ∷ ks) (suc i) (suc j) r h f = rising_lt (R.head k) ks i j r.1 (omega arith) (omega arith)

  pub rising_once : (v : ℕ) (ks : List ℕ) → Rising R rank v ks → Once R v ks
  rising_once v ks r = record { apart = λ i j h f e. omega (arith, rising_lt v ks i j r h f, ap rank e) }

  -- where all roads lead to a higher rank, every walk does
  pub walk_rising : ((k : ℕ) → k < R.count → rank (R.tail k) < rank (R.head k)) → {v w : ℕ} {ks : List ℕ} → Walk R v ks w → Rising R rank v ks
  walk_rising rises {v} stay = rising_none v
  walk_rising rises {v} (go {ks = ks} k h e w) =
      rising_more v k ks (omega (arith, rises k h, ap rank e)) (walk_rising rises w)
