-- The chains with one road more. Assumes nothing.
use mathlib.Core.Path.{◌≡◌, refl, sym, ap, ◌∙◌}
use mathlib.Core.List.{List}
use mathlib.Core.Logic.{◌≢◌}
use Prim.Native.Nat.{ℕ, ◌+◌, ◌≤◌, ◌<◌}
use native.Mathlib.Decide.{ℕ_discrete}
use native.Mathlib.Omega.{arith}
use lib.ListN.{length, set, length-set}
use Rattle.lists.proofs.Stores.{set_put}
use Rattle.lists.specs.Lists.{entry, Put}
use Rattle.network.specs.Files.{most_roads}
use Rattle.walks.specs.Walk.{Roads}
use Rattle.search.specs.Sizes.{most_places, chains_size}
use Rattle.search.specs.Chains.{last_of, previous_of, Link, Chained}

module _ {R : Roads} {k : ℕ} {chains : List ℕ} (c : Chained R k chains) (long : length chains ≡ chains_size) (few : k < most_roads)
    {v : ℕ} (at_v : v ≡ R.tail k) (within : v < most_places) where
  first : List ℕ
  first = set chains (most_places + k) (entry chains v)

  second : List ℕ
  second = set first v (k + 1)

  put₁ : Put (entry chains) (entry first) (most_places + k) (entry chains v)
  unfolding first
  put₁ = set_put chains (omega arith) refl

  put₂ : Put (entry first) (entry second) v (k + 1)
  unfolding first second
  put₂ = set_put first (omega (arith, length-set chains (most_places + k) (entry chains v))) refl

  lasts : (w : ℕ) → w < most_places → Dec (w ≡ v) → Link R w (last_of second w) (k + 1)
  lasts w h (yes e) =
      let p : last_of second w ≡ k + 1 = ap (last_of second) e ∙ put₂.here in
      record {
        low = omega arith;
        gap = λ j a b. absurd (omega arith);
        hit = λ j q. let s : j ≡ k = omega arith in ap R.tail s ∙ sym at_v ∙ sym e;
      }
  lasts w h (no e) =
      let p : last_of second w ≡ last_of chains w = put₂.rest w e ∙ put₁.rest w (λ q. absurd (omega arith)) in
      let l = c.lasts w h in
      record {
        low = omega (arith, l.low);
        gap = λ j a b. gap j a b (ℕ_discrete j k) p l.gap;
        hit = λ j q. l.hit j (sym p ∙ q);
      }
    where
      gap : (j : ℕ) → last_of second w ≤ j → j < k + 1 → Dec (j ≡ k) → last_of second w ≡ last_of chains w
          → ((i : ℕ) → last_of chains w ≤ i → i < k → R.tail i ≢ w) → R.tail j ≢ w
      gap j a b (yes q) p g z = e (sym z ∙ ap R.tail q ∙ sym at_v)
      gap j a b (no q) p g z = g j (omega arith) (omega arith) z

  previous : (j : ℕ) → j < k + 1 → Dec (j ≡ k) → Link R (R.tail j) (previous_of second j) j
  previous j h (yes e) =
      let p : previous_of second j ≡ last_of chains v =
      put₂.rest (most_places + j) (λ q. absurd (omega arith)) ∙ ap (λ (i : ℕ). entry first (most_places + i)) e ∙ put₁.here in
      rw (p, e, ← at_v) (c.lasts v within)
  previous j h (no e) =
      let p : previous_of second j ≡ previous_of chains j =
      put₂.rest (most_places + j) (λ q. absurd (omega arith))
      ∙ put₁.rest (most_places + j) (λ q. e (omega arith)) in
      rw p (c.previous j (omega arith))

  pub chained_more : Chained R (k + 1) (set (set chains (most_places + k) (entry chains v)) v (k + 1))
  unfolding first second
  chained_more =
      record {
        lasts = λ w h. lasts w h (ℕ_discrete w v);
        previous = λ j h. previous j h (ℕ_discrete j k);
      }
