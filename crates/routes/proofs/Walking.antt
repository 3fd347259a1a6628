-- A route is a walk from its source exactly when each of its entries is a road that begins where the van stands.
-- Assumes nothing.
use Rattle.std.specs.Prelude.{Ok}
use mathlib.Core.Path.{◌≡◌}
use mathlib.Core.List.{List, [], ◌∷◌}
use Prim.Native.Nat.{ℕ, zero, suc, ◌<◌}
use native.Mathlib.Omega.{arith}
use borrow.Author.Tests.{ltb-true, eqb-true, lt-ltb, eq-eqb}
use lib.Dec.{ltb, eqb}
use lib.ListN.{length}
use Rattle.refusals.proofs.Faults.{first_passed, unless_passed, all_passed, none_fails}
use Rattle.network.specs.Files.{road_count, road_of}
use Rattle.journeys.specs.Walks.{Walk}
use Rattle.walks.specs.Walk.{stay, go}
use Rattle.refusals.specs.declared.Refusal.TheVariants as refusal
use Rattle.refusals.specs.Order.{Checked}
use Rattle.routes.specs.Claims.{Walks}
use Rattle.routes.specs.Places.{entry_at, stands_at, place_fault, route_fault}

-- the entry at place i is a road that begins where the van stands
record Step (rs : List ℕ) (source : ℕ) (es : List ℕ) (i : ℕ) : Type 0 where
  pub is_road : entry_at es i < road_count rs
  pub here : (road_of rs (entry_at es i)).tail ≡ stands_at rs source es i

-- the places of a route without its first entry
down : {rs : List ℕ} {source : ℕ} {e : ℕ} {es : List ℕ} (i : ℕ) → Step rs source (e ∷ es) (suc i) → Step rs (road_of rs e).head es i
down zero s = record { is_road = s.is_road; here = s.here }
down (suc i) s = record { is_road = s.is_road; here = s.here }

up : {rs : List ℕ} {source : ℕ} {e : ℕ} {es : List ℕ} (i : ℕ) → Step rs (road_of rs e).head es i → Step rs source (e ∷ es) (suc i)
up zero s = record { is_road = s.is_road; here = s.here }
up (suc i) s = record { is_road = s.is_road; here = s.here }

steps_walk : (rs : List ℕ) (source : ℕ) (es : List ℕ) → ((i : ℕ) → i < length es → Step rs source es i) → Walks rs source es
steps_walk rs source [] s = record { target = source; walk = stay }
steps_walk rs source (e ∷ es) s =
    let a = s 0 (omega arith) in
    let w = steps_walk rs (road_of rs e).head es (λ i h. down i (s (suc i) (omega arith))) in
    record { target = w.target; walk = go e a.is_road a.here w.walk }

walk_steps : {rs : List ℕ} {v w : ℕ} {es : List ℕ} → Walk rs v es w → (i : ℕ) → i < length es → Step rs v es i
walk_steps stay i h = absurd (omega arith)
walk_steps (go k p e t) zero h = record { is_road = p; here = e }
walk_steps (go k p e t) (suc i) h = up i (walk_steps t i (omega arith))

-- ---- the faults

module _ (rs : List ℕ) (source : ℕ) (es : List ℕ) (last : ℕ → Checked) where
  passed_at : route_fault rs source es last ≡ Ok tt → (i : ℕ) → i < length es → Step rs source es i × (last i ≡ Ok tt)
  unfolding place_fault
  passed_at e i h =
      let a = first_passed _ _ (all_passed (λ j. place_fault rs source es j (last j)) (length es) e i h) in
      let b = first_passed _ _ a.1 in (
        record {
          is_road = ltb-true _ _ (unless_passed (ltb (entry_at es i) (road_count rs)) (refusal.NotRoad i) a.0);
          here =
              eqb-true _ _
              (unless_passed (eqb (road_of rs (entry_at es i)).tail (stands_at rs source es i)) (refusal.NotHere i) b.0);
        },
        b.1,
      )

  pub fault_walks : route_fault rs source es last ≡ Ok tt → Walks rs source es
  fault_walks e = steps_walk rs source es (λ i h. (passed_at e i h).0)

  pub fault_last : route_fault rs source es last ≡ Ok tt → (i : ℕ) → i < length es → last i ≡ Ok tt
  fault_last e i h = (passed_at e i h).1

  passes_at : (i : ℕ) → Step rs source es i → last i ≡ Ok tt → place_fault rs source es i (last i) ≡ Ok tt
  unfolding place_fault
  passes_at i s e = simp (lt-ltb _ _ s.is_road, eq-eqb _ _ s.here, e)

  pub no_fault : Walks rs source es → ((i : ℕ) → i < length es → last i ≡ Ok tt) → route_fault rs source es last ≡ Ok tt
  no_fault w l =
      none_fails (λ i. place_fault rs source es i (last i)) (length es) 0
      (λ i a b. passes_at i (walk_steps w.walk i (omega arith)) (l i (omega arith)))
