-- A route that is refused with 14 cannot be driven. Assumes nothing.
use Rattle.std.specs.Prelude.{Err, None, Option, Some, option_and_then}
use mathlib.Core.Path.{◌≡◌, refl, ap, ◌∙◌}
use mathlib.Core.Bool.{Bool, true, false}
use mathlib.Core.List.{List}
use Prim.Native.Nat.{ℕ, ◌+◌}
use native.Mathlib.Omega.{arith}
use lib.Dec.{ltb, eqb}
use lib.ListN.{length, drop}
use Rattle.battery.proofs.Drive.{drive_all_append}
use Rattle.battery.specs.Drive.{drive_all}
use Rattle.battery.specs.declared.Van.{Van}
use Rattle.refusals.proofs.Faults.{from_found}
use Rattle.refusals.specs.Order.{Checked, unless, first}
use Rattle.network.specs.Files.{road_count, road_of}
use Rattle.refusals.specs.Refusals.{number_of}
use Rattle.journeys.specs.Walks.{roads_of}
use Rattle.refusals.specs.declared.Refusal.{Refusal}
use Rattle.refusals.specs.declared.Refusal.TheVariants as refusal
use Rattle.routes.specs.Places.{entry_at, stands_at, up_to, place_fault, low_fault, drive_faults}
use Rattle.routes.proofs.Places.{split}

clash : {X : Type 0} {r s : Refusal} → number_of r ≡ 14 → (number_of s ≡ 14 → ⊥) → ◌≡◌ {A = Checked} (Err s) (Err r) → X
clash {r} {s} n d e = let p : s ≡ r = cc in absurd (d (ap number_of p ∙ n))

-- 14 is the fault of the charge
low_drove : (i : ℕ) (d : Option Van) {r : Refusal} → number_of r ≡ 14 → low_fault i d ≡ Err r → d ≡ None
low_drove i (Some v) n e = let z : ◌≡◌ {A = ℕ} 0 1 = cc in absurd (omega arith)
low_drove i None n e = refl

place_low : (rs : List ℕ) (source : ℕ) (es : List ℕ) (i : ℕ) (d : Option Van) {r : Refusal} → number_of r ≡ 14
    → place_fault rs source es i (low_fault i d) ≡ Err r → d ≡ None
unfolding place_fault
place_low rs source es i d {r} n e =
    go (ltb (entry_at es i) (road_count rs)) (eqb (road_of rs (entry_at es i)).tail (stands_at rs source es i)) e
  where
    go : (t u : Bool) → first (unless t (refusal.NotRoad i)) (first (unless u (refusal.NotHere i)) (low_fault i d)) ≡ Err r
        → d ≡ None
    go true true h = low_drove i d n h
    go true false h = clash {r = r} {s = refusal.NotHere i} n (λ k. omega arith) h
    go false u h = clash {r = r} {s = refusal.NotRoad i} n (λ k. omega arith) h

-- what cannot be driven up to a place cannot be driven
whole : (rs es : List ℕ) (v : Van) (i : ℕ) → drive_all v (up_to rs es i) ≡ None → drive_all v (roads_of rs es) ≡ None
whole rs es v i e =
    ap (drive_all v) (split rs es i)
    ∙ drive_all_append v (up_to rs es i) (roads_of rs (drop (i + 1) es))
    ∙ ap (λ (d : Option Van). option_and_then (λ w. drive_all w (roads_of rs (drop (i + 1) es))) d) e

pub low_route : (rs : List ℕ) (source : ℕ) (es : List ℕ) (v : Van) {r : Refusal} → number_of r ≡ 14
    → drive_faults rs source es v ≡ Err r → drive_all v (roads_of rs es) ≡ None
low_route rs source es v n e =
    let f = from_found (λ i. place_fault rs source es i (low_fault i (drive_all v (up_to rs es i)))) (length es) 0 e in
    whole rs es v f.at (place_low rs source es f.at _ n f.fails)
