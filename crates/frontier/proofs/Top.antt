-- The greatest key of a queue. Assumes nothing.
use mathlib.Core.Path.{◌≡◌, refl, sym, ap, ◌∙◌}
use mathlib.Core.Logic.{◌⊎◌, ◌≢◌, inl, inr}
use mathlib.Core.List.{List}
use Prim.Native.Nat.{ℕ, ◌+◌, ◌*◌, ◌-◌, ◌%◌, ◌≤◌, ◌<◌, max}
use native.Mathlib.Decide.{ℕ_discrete, dec_lt}
use native.Mathlib.Omega.{arith}
use Rattle.lists.specs.Lists.{entry, Put}
use Rattle.frontier.specs.Frontier.{places, tree_from, ones_from, keys_from, group_of, key_at, Greatest, Frontier, Top}
use Rattle.frontier.proofs.Level.{above₁, above₂, above₃}

-- the greatest of the top level is the greatest key
pub top_of : {queue : List ℕ} {r : ℕ} → Frontier queue → Greatest (entry queue) 0 r → Top queue r
top_of {queue} {r} f t = record {
  most = λ v. most v (dec_lt 0 (key_at queue v));
  is = is (ℕ_discrete r 0);
}
  where
    most : (v : ℕ) → Dec (0 < key_at queue v) → key_at queue v ≤ r
    most v (yes h) =
        let b : v < places = omega (arith, f.tells v h) in
        omega (
          arith,
          (f.level (above₁ v) (omega arith) (omega arith)).most (keys_from + v) (omega arith),
          (f.level (above₂ v) (omega arith) (omega arith)).most (above₁ v) (omega arith),
          (f.level (above₃ v) (omega arith) (omega arith)).most (above₂ v) (omega arith),
          t.most (above₃ v) (omega arith),
        )
    most v (no h) = omega arith

    -- a key that is r, one level down at a time
    below : (a b : ℕ) → tree_from ≤ a → b ≤ keys_from → (i : ℕ) × (a ≤ i) × (i < b) × (entry queue i ≡ r)
        → (j : ℕ) × (group_of a * 8 ≤ j) × (j < group_of b * 8) × (entry queue j ≡ r)
    below a b t h (i, l, u, e) = let (j, g, e') = (f.level i (omega arith) (omega arith)).is in (j, omega arith, omega arith, e' ∙ e)

    -- where r is not 0, it stands at the top
    at_top : r ≢ 0 → tree_from ≤ t.is.0
    at_top z = go (dec_lt t.is.0 tree_from)
      where
        go : Dec (t.is.0 < tree_from) → tree_from ≤ t.is.0
        go (yes u) = absurd (z (sym t.is.2 ∙ f.unused t.is.0 u))
        go (no u) = omega arith

    key : r ≢ 0 → (j : ℕ) × (keys_from ≤ j) × (j < group_of keys_from * 8) × (entry queue j ≡ r)
    key z =
        below ones_from keys_from (omega arith) (omega arith)
        (below 8 ones_from (omega arith) (omega arith)
        (below tree_from 8 (omega arith) (omega arith) (t.is.0, at_top z, omega (arith, t.is.1), t.is.2)))

    of_key : r ≢ 0 → (v : ℕ) → key_at queue v ≡ r → key_at queue (r % places) ≡ r
    of_key z v e = let told : r % places ≡ v = rw e at (f.tells v (omega arith)) in ap (key_at queue) told ∙ e

    is : Dec (r ≡ 0) → (r ≡ 0) ⊎ (key_at queue (r % places) ≡ r)
    is (yes z) = inl z
    is (no z) = inr (of_key z ((key z).0 - keys_from) (ap (entry queue) (omega (arith, (key z).1)) ∙ (key z).3))

-- the greatest key after a key has risen
pub top_raise : {queue queue' : List ℕ} {top v : ℕ} (key : ℕ) → Top queue top → Put (key_at queue) (key_at queue') v (max (key_at queue v) key)
    → (0 < key → key % places ≡ v) → Top queue' (max top key)
top_raise {queue} {queue'} {top} {v} key t p k = record {
  most = λ u. most u (ℕ_discrete u v);
  is = is (dec_lt top key) t.is (ℕ_discrete (top % places) v);
}
  where
    most : (u : ℕ) → Dec (u ≡ v) → key_at queue' u ≤ max top key
    most u (yes e) = omega (arith, ap (key_at queue') e, p.here, t.most v)
    most u (no e) = omega (arith, p.rest u e, t.most u)

    at : {r u : ℕ} → max top key ≡ r → r % places ≡ u → key_at queue' u ≡ r → key_at queue' (max top key % places) ≡ max top key
    at e e' h = rw (e, e') h

    is : Dec (top < key) → (top ≡ 0) ⊎ (key_at queue (top % places) ≡ top) → Dec (top % places ≡ v)
        → (max top key ≡ 0) ⊎ (key_at queue' (max top key % places) ≡ max top key)
    is (yes l) w d = inr (at (omega arith) (k (omega arith)) (omega (arith, p.here, t.most v)))
    is (no l) (inl z) d = inl (omega arith)
    is (no l) (inr w) (yes e) = inr (at (omega arith) e (omega (arith, p.here, ap (key_at queue) e)))
    is (no l) (inr w) (no e) = inr (at (omega arith) refl (p.rest (top % places) e ∙ w))
