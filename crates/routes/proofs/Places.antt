-- A route gone along place by place: what is known where the van stands before place i, and how it goes on. Assumes nothing.
use Rattle.std.specs.Prelude.{Err, Ok}
use mathlib.Core.Path.{◌≡◌, refl, sym, ap, ◌∙◌}
use mathlib.Core.List.{List, [], ◌∷◌, ◌++◌}
use Prim.Native.Nat.{ℕ, ◌+◌, ◌-◌, ◌≤◌, ◌<◌}
use native.Mathlib.Numerals.{add-one}
use native.Mathlib.Omega.{arith}
use borrow.Author.Tests.{ltb-true}
use lib.Dec.{ltb}
use lib.ListN.{length, take, drop, take-append-drop}
use lib.Seq.{take-suc, take_all}
use Rattle.battery.specs.declared.Road.{Road}
use Rattle.refusals.proofs.Faults.{first_assoc, first_passed, unless_passed, from_go, from_stop, from_end}
use Rattle.refusals.specs.Order.{first, first_from, Checked}
use Rattle.network.specs.Files.{road_count, road_of}
use Rattle.journeys.specs.Walks.{roads_of}
use Rattle.refusals.specs.declared.Refusal.{Refusal}
use Rattle.refusals.specs.declared.Refusal.TheVariants as refusal
use Rattle.routes.specs.Places.{entry_at, stands_at, up_to, entry_fault, begin_fault, place_fault, route_fault}
use Rattle.routes.specs.Steps.{enters}

-- ---- one place

-- what is entered is a road of the file
pub is_road : (rs : List ℕ) (e i at : ℕ) → enters rs e i at ≡ Ok tt → e < road_count rs
unfolding enters
is_road rs e i at h = ltb-true _ _ (unless_passed (ltb e (road_count rs)) (refusal.NotRoad i) (first_passed _ _ h).0)

-- the fault of a place: 12 or 13 before the last test
place_is : (rs : List ℕ) (source : ℕ) (es : List ℕ) (i : ℕ) (last : Checked)
    → place_fault rs source es i last ≡ first (enters rs (entry_at es i) i (stands_at rs source es i)) last
unfolding enters place_fault
place_is rs source es i last =
    let e = entry_at es i in
    sym (first_assoc (entry_fault rs e i) (begin_fault (road_of rs e) i (stands_at rs source es i)) last)

-- ---- the route

-- before place i the van stands at `at`, and no earlier place fails
pub record Standing (rs : List ℕ) (source : ℕ) (es : List ℕ) (last : ℕ → Checked) (at i : ℕ) : Type 0 where
  pub stands : at ≡ stands_at rs source es i
  pub faults : first_from (λ j. place_fault rs source es j (last j)) (length es - i) i ≡ route_fault rs source es last

module _ {rs : List ℕ} {source : ℕ} {es : List ℕ} {last : ℕ → Checked} {at i : ℕ} where
  fault_is : {x : Checked} → Standing rs source es last at i → enters rs (entry_at es i) i at ≡ x → place_fault rs source es i (last i) ≡ first x (last i)
  fault_is s h = place_is rs source es i (last i) ∙ ap (λ (v : ℕ). first (enters rs (entry_at es i) i v) (last i)) (sym s.stands) ∙ ap (λ (y : Checked). first y (last i)) h

  -- a place that passes: the van stands at the road's head before the next
  pub standing_on : Standing rs source es last at i → i < length es → enters rs (entry_at es i) i at ≡ Ok tt
      → last i ≡ Ok tt → Standing rs source es last (road_of rs (entry_at es i)).head (i + 1)
  standing_on s h e l =
      record {
        stands = sym (ap (stands_at rs source es) (add-one i));
        faults =
            sym (from_go (λ j. place_fault rs source es j (last j)) (length es) i h (fault_is s e ∙ l)) ∙ s.faults;
      }

  -- a place where no road is entered: 12, 13
  pub standing_refused : {q : Refusal} → Standing rs source es last at i → i < length es → enters rs (entry_at es i) i at ≡ Err q
      → route_fault rs source es last ≡ Err q
  standing_refused {q} s h e =
      sym s.faults ∙ from_stop (λ j. place_fault rs source es j (last j)) (length es) i q h (fault_is s e)

  -- a place where the last test fails: 14, 15
  pub standing_last : {q : Refusal} → Standing rs source es last at i → i < length es → enters rs (entry_at es i) i at ≡ Ok tt
      → last i ≡ Err q → route_fault rs source es last ≡ Err q
  standing_last {q} s h e l =
      sym s.faults ∙ from_stop (λ j. place_fault rs source es j (last j)) (length es) i q h (fault_is s e ∙ l)

  -- past the last place
  pub standing_end : Standing rs source es last at i → length es ≤ i → route_fault rs source es last ≡ Ok tt
  standing_end s h = sym s.faults ∙ from_end (λ j. place_fault rs source es j (last j)) (length es) i h

pub standing_start : (rs : List ℕ) (source : ℕ) (es : List ℕ) (last : ℕ → Checked) → Standing rs source es last source 0
standing_start rs source es last =
    record {
      stands = refl;
      faults = ap (λ (n : ℕ). first_from (λ j. place_fault rs source es j (last j)) n 0) (omega arith);
    }

-- ---- the roads of the first places

map_append : (rs xs ys : List ℕ) → roads_of rs (xs ++ ys) ≡ roads_of rs xs ++ roads_of rs ys
map_append rs [] ys = refl
map_append rs (x ∷ xs) ys = ap (λ (l : List Road). road_of rs x ∷ l) (map_append rs xs ys)

pub up_to_is : (rs es : List ℕ) (i : ℕ) → i < length es → up_to rs es i ≡ roads_of rs (take i es) ++ (road_of rs (entry_at es i) ∷ [])
up_to_is rs es i h =
    ap (λ (n : ℕ). roads_of rs (take n es)) (add-one i)
    ∙ ap (roads_of rs) (take-suc es i 0 h)
    ∙ map_append rs (take i es) (entry_at es i ∷ [])

pub all_roads : (rs es : List ℕ) (i : ℕ) → length es ≤ i → roads_of rs (take i es) ≡ roads_of rs es
all_roads rs es i h = ap (roads_of rs) (take_all i es h)

-- the roads of a route: those up to a place, and the rest
pub split : (rs es : List ℕ) (i : ℕ) → roads_of rs es ≡ up_to rs es i ++ roads_of rs (drop (i + 1) es)
split rs es i = ap (roads_of rs) (sym (take-append-drop (i + 1) es)) ∙ map_append rs (take (i + 1) es) (drop (i + 1) es)
