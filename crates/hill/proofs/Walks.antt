-- All walks of network H. Every road leads to a junction of a higher number, so no walk visits a junction twice. Assumes
-- nothing.
use mathlib.Core.Path.{refl, subst}
use mathlib.Core.List.{List, [], ◌∷◌}
use Prim.Native.Nat.{ℕ, zero, suc, ◌<◌}
use native.Mathlib.Omega.{arith}
use Rattle.network.specs.Files.{road_count, road_of}
use Rattle.journeys.specs.Walks.{roads_in, Walk, Once}
use Rattle.walks.proofs.Stops.{rising_once, walk_rising}
use Rattle.walks.specs.Walk.{stay, go}
use Rattle.hill.specs.Hill.{roads}

rises : (k : ℕ) → k < road_count roads → (road_of roads k).tail < (road_of roads k).head
rises zero h = omega arith
rises (suc zero) h = omega arith
rises (suc (suc zero)) h = omega arith
rises (suc (suc (suc zero))) h = omega arith
rises (suc (suc (suc (suc k)))) h = absurd (omega arith)

pub once : {v w : ℕ} {ks : List ℕ} → Walk roads v ks w → Once roads v ks
once {v} {w} {ks} walk = rising_once (roads_in roads) (λ u. u) v ks (walk_rising (roads_in roads) (λ u. u) rises walk)

-- every walk of H, by its roads
pub data Way : ℕ → List ℕ → ℕ → Type 0 where
  stays : {v : ℕ} → Way v [] v
  by_0 : Way 0 (0 ∷ []) 1
  by_1 : Way 1 (1 ∷ []) 2
  by_2 : Way 0 (2 ∷ []) 2
  by_3 : Way 2 (3 ∷ []) 3
  by_0_1 : Way 0 (0 ∷ 1 ∷ []) 2
  by_1_3 : Way 1 (1 ∷ 3 ∷ []) 3
  by_2_3 : Way 0 (2 ∷ 3 ∷ []) 3
  by_0_1_3 : Way 0 (0 ∷ 1 ∷ 3 ∷ []) 3

one_more : {w : ℕ} {ks : List ℕ} (k : ℕ) → k < road_count roads → Way (road_of roads k).head ks w
    → Way (road_of roads k).tail (k ∷ ks) w
one_more zero h stays = by_0
one_more zero h by_1 = by_0_1
one_more zero h by_1_3 = by_0_1_3
one_more (suc zero) h stays = by_1
one_more (suc zero) h by_3 = by_1_3
one_more (suc (suc zero)) h stays = by_2
one_more (suc (suc zero)) h by_3 = by_2_3
one_more (suc (suc (suc zero))) h stays = by_3
one_more (suc (suc (suc (suc k)))) h w = absurd (omega arith)

pub way : {v w : ℕ} {ks : List ℕ} → Walk roads v ks w → Way v ks w
way stay = stays
way {w} (go {ks = ks} k h e walk) = subst (λ v. Way v (k ∷ ks) w) e (one_more k h (way walk))

-- no road leads back
pub no_way : {X : Type 0} {v d : ℕ} {ks : List ℕ} → d < v → Way v ks d → X
no_way h stays = absurd (omega arith)
no_way h by_0 = absurd (omega arith)
no_way h by_1 = absurd (omega arith)
no_way h by_2 = absurd (omega arith)
no_way h by_3 = absurd (omega arith)
no_way h by_0_1 = absurd (omega arith)
no_way h by_1_3 = absurd (omega arith)
no_way h by_2_3 = absurd (omega arith)
no_way h by_0_1_3 = absurd (omega arith)

-- ---- the walks between the junctions of the rows

-- the walks by `one` and by `other` are all from s to t
abbrev pub Two : ℕ → ℕ → List ℕ → List ℕ → Type 1
Two s t one other = (P : List ℕ → Type 0) → P one → P other → (ks : List ℕ) → Way s ks t → P ks

pub to_3 : Two 0 3 (0 ∷ 1 ∷ 3 ∷ []) (2 ∷ 3 ∷ [])
to_3 P hill flat ks by_0_1_3 = hill
to_3 P hill flat ks by_2_3 = flat

pub to_2 : Two 0 2 (0 ∷ 1 ∷ []) (2 ∷ [])
to_2 P hill flat ks by_0_1 = hill
to_2 P hill flat ks by_2 = flat

pub to_2_flat : Two 0 2 (2 ∷ []) (0 ∷ 1 ∷ [])
to_2_flat P flat hill ks w = to_2 P hill flat ks w

pub hill_3 : Walk roads 0 (0 ∷ 1 ∷ 3 ∷ []) 3
hill_3 = go 0 (omega arith) refl (go 1 (omega arith) refl (go 3 (omega arith) refl stay))

pub hill_2 : Walk roads 0 (0 ∷ 1 ∷ []) 2
hill_2 = go 0 (omega arith) refl (go 1 (omega arith) refl stay)

pub flat_2 : Walk roads 0 (2 ∷ []) 2
flat_2 = go 2 (omega arith) refl stay
