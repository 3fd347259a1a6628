-- A route followed by any gauge, place by place: what is known on the way, and how it goes on. Assumes nothing.
use Rattle.std.specs.Prelude.{Err, None, Ok, Option, Some}
use mathlib.Core.Path.{◌≡◌, sym, ap, ◌∙◌}
use mathlib.Core.List.{List}
use Prim.Native.Nat.{ℕ, ◌+◌, ◌≤◌, ◌<◌}
use native.Mathlib.Omega.{arith}
use lib.ListN.{length, take}
use Rattle.battery.specs.declared.Road.{Road}
use Rattle.network.specs.Files.{road_of}
use Rattle.journeys.specs.Walks.{roads_of}
use Rattle.refusals.specs.declared.Refusal.{Refusal}
use Rattle.routes.specs.Gauges.{GaugeLaws, FollowAsks, Follows, passed}
use Rattle.routes.specs.Places.{entry_at, stopped, up_to}
use Rattle.routes.specs.Steps.{enters}
use Rattle.routes.proofs.Places.{is_road, Standing, standing_on, standing_refused, standing_last, standing_start, standing_end, up_to_is, all_roads}

passed_on : {S : Type 0} (q : Refusal) (o : Option S) {t : S} → passed q o ≡ Ok t → o ≡ Some t
passed_on q (Some s) e = cc
passed_on q None e = let z : ◌≡◌ {A = ℕ} 0 1 = cc in absurd (omega arith)

passed_stops : {S : Type 0} (q : Refusal) (o : Option S) {r : Refusal} → passed q o ≡ Err r → stopped q o ≡ Err r
passed_stops q (Some s) e = let z : ◌≡◌ {A = ℕ} 0 1 = cc in absurd (omega arith)
passed_stops q None e = cc

-- t is read after the first i roads, the van stands at the junction `at`, and no earlier place fails
pub record Underway {S : Type 0} (Fits : ℕ → S → Type 0) (along : S → List Road → Option S) (fault : ℕ → Refusal) (rs : List ℕ) (source : ℕ) (es : List ℕ) (start : S) (at : ℕ) (t : S) (i : ℕ) : Type 0 where
  pub standing : Standing rs source es (λ j. stopped (fault j) (along start (up_to rs es j))) at i
  pub read : along start (roads_of rs (take i es)) ≡ Some t
  pub fits : Fits i t

module _ {S : Type 0} {Begins : S → Type 0} {Fits : ℕ → S → Type 0} {passes : S → Road → Option S} {along : S → List Road → Option S} (L : GaugeLaws Begins Fits passes along) {fault : ℕ → Refusal} {rs : List ℕ} {source : ℕ} {es : List ℕ} {start : S} (A : FollowAsks Begins rs es start) where
  pub underway_start : Underway Fits along fault rs source es start source start 0
  underway_start = record { standing = standing_start rs source es _; read = L.starts start A.begins; fits = L.fits start A.begins }

  module _ {at i : ℕ} {t : S} (u : Underway Fits along fault rs source es start at t i) (h : i < length es) where
    -- a place where no road is entered
    pub not_entered : {q : Refusal} → enters rs (entry_at es i) i at ≡ Err q → Follows along fault rs source es start (Err q)
    not_entered e = standing_refused u.standing h e

    -- the road at place i decides the last test there
    tested : along start (up_to rs es i) ≡ passes t (road_of rs (entry_at es i))
    tested =
        ap (along start) (up_to_is rs es i h)
        ∙ L.goes_on start t (roads_of rs (take i es)) (road_of rs (entry_at es i)) A.begins u.read

    pub not_passed : {q : Refusal} → enters rs (entry_at es i) i at ≡ Ok tt → passed (fault i) (passes t (road_of rs (entry_at es i))) ≡ Err q
        → Follows along fault rs source es start (Err q)
    not_passed e f =
        standing_last u.standing h e (ap (stopped (fault i)) tested ∙ passed_stops (fault i) (passes t (road_of rs (entry_at es i))) f)

    pub underway_on : {w : S} → enters rs (entry_at es i) i at ≡ Ok tt → passed (fault i) (passes t (road_of rs (entry_at es i))) ≡ Ok w
        → Underway Fits along fault rs source es start (road_of rs (entry_at es i)).head w (i + 1)
    underway_on {w} e f =
        let p = passed_on (fault i) (passes t (road_of rs (entry_at es i))) f in
        let k : along start (up_to rs es i) ≡ Some w = tested ∙ p in
        record {
          standing = standing_on u.standing h e (ap (stopped (fault i)) k);
          read = k;
          fits = L.keeps i t w _ (A.roads_ranged.ranged _ (is_road rs (entry_at es i) i at e)) u.fits p;
        }

  -- past the last place
  pub followed : {at i : ℕ} {t : S} → Underway Fits along fault rs source es start at t i → length es ≤ i → Follows along fault rs source es start (Ok t)
  followed {i = i} u h = (standing_end u.standing h, sym (ap (along start) (all_roads rs es i h)) ∙ u.read)
