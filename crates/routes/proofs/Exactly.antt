-- A drive has no fault exactly when its route is a walk from its source and feasible, a profile exactly when it is a walk and
-- passable. Assumes nothing.
use Rattle.std.specs.Prelude.{None, Ok, Option, Some, option_and_then}
use mathlib.Core.Path.{◌≡◌, refl, sym, ap, ◌∙◌}
use mathlib.Core.List.{List, [], ◌∷◌}
use Prim.Native.Nat.{ℕ, ◌+◌, ◌<◌}
use native.Mathlib.Omega.{arith}
use lib.ListN.{length, drop}
use lib.Seq.{take_all}
use Rattle.battery.proofs.Compose.{compose}
use Rattle.battery.proofs.Drive.{drive_all_append}
use Rattle.battery.specs.Drive.{fresh, drive_all}
use Rattle.battery.specs.Profile.{no_roads, profile_of, followed_by}
use Rattle.battery.specs.declared.Battery.{Battery}
use Rattle.battery.specs.declared.Profile.{Profile}
use Rattle.battery.specs.declared.Van.{Van}
use Rattle.journeys.specs.Walks.{roads_of, Feasible}
use Rattle.routes.specs.Claims.{Passes, DrivenExactly, ProfiledExactly}
use Rattle.routes.specs.Places.{up_to, low_fault, impassable_fault}
use Rattle.routes.proofs.Places.{split}
use Rattle.routes.proofs.Walking.{fault_walks, fault_last, no_fault}

-- up to the last place the roads are all
whole : (rs : List ℕ) (e : ℕ) (es : List ℕ) → up_to rs (e ∷ es) (length es) ≡ roads_of rs (e ∷ es)
whole rs e es = ap (roads_of rs) (take_all (length es + 1) (e ∷ es) (omega arith))

-- ---- the drive

low_on : (i : ℕ) (d : Option Van) → low_fault i d ≡ Ok tt → (v : Van) × (d ≡ Some v)
low_on i (Some v) e = (v, refl)
low_on i None e = let z : ◌≡◌ {A = ℕ} 0 1 = cc in absurd (omega arith)

prefix_on : (i : ℕ) (d : Option Van) (k : Van → Option Van) {w : Van} → option_and_then k d ≡ Some w → low_fault i d ≡ Ok tt
prefix_on i (Some v) k e = refl
prefix_on i None k e = let z : ◌≡◌ {A = ℕ} 0 1 = cc in absurd (omega arith)

feasible : (B : Battery) (b : ℕ) (rs es : List ℕ) → ((i : ℕ) → i < length es → low_fault i (drive_all (fresh B b) (up_to rs es i)) ≡ Ok tt) → Feasible B b rs es
unfolding drive_all
feasible B b rs [] h = record { van = fresh B b; drives = refl }
feasible B b rs (e ∷ es) h =
    let d = low_on (length es) (drive_all (fresh B b) (up_to rs (e ∷ es) (length es))) (h (length es) (omega arith)) in
    record { van = d.0; drives = sym (ap (drive_all (fresh B b)) (whole rs e es)) ∙ d.1 }

pub driven_exactly : (B : Battery) (b : ℕ) (rs : List ℕ) (source : ℕ) (es : List ℕ) → DrivenExactly B b rs source es
driven_exactly B b rs source es =
    record {
      walks = λ e. fault_walks rs source es _ e;
      feasible = λ e. feasible B b rs es (fault_last rs source es _ e);
      only = λ w f. no_fault rs source es (λ i. low_fault i (drive_all (fresh B b) (up_to rs es i))) w (λ i h. on f i);
    }
  where
    on : Feasible B b rs es → (i : ℕ) → low_fault i (drive_all (fresh B b) (up_to rs es i)) ≡ Ok tt
    on f i =
        prefix_on i (drive_all (fresh B b) (up_to rs es i)) (λ w. drive_all w (roads_of rs (drop (i + 1) es)))
        (sym (drive_all_append (fresh B b) (up_to rs es i) (roads_of rs (drop (i + 1) es))) ∙ sym (ap (drive_all (fresh B b)) (split rs es i)) ∙ f.drives)

-- ---- the profile

passable_on : (i : ℕ) (x : Option Profile) → impassable_fault i x ≡ Ok tt → (p : Profile) × (x ≡ Some p)
passable_on i (Some p) e = (p, refl)
passable_on i None e = let z : ◌≡◌ {A = ℕ} 0 1 = cc in absurd (omega arith)

prefix_passable : (i : ℕ) (x y : Option Profile) {p : Profile} → followed_by x y ≡ Some p → impassable_fault i x ≡ Ok tt
unfolding followed_by
prefix_passable i (Some q) y e = refl
prefix_passable i None y e = let z : ◌≡◌ {A = ℕ} 0 1 = cc in absurd (omega arith)

passes : (B : Battery) (rs es : List ℕ) → ((i : ℕ) → i < length es → impassable_fault i (profile_of B (up_to rs es i)) ≡ Ok tt) → Passes B rs es
unfolding profile_of
passes B rs [] h = record { profile = no_roads B; passable = refl }
passes B rs (e ∷ es) h =
    let d = passable_on (length es) (profile_of B (up_to rs (e ∷ es) (length es))) (h (length es) (omega arith)) in
    record { profile = d.0; passable = sym (ap (profile_of B) (whole rs e es)) ∙ d.1 }

pub profiled_exactly : (B : Battery) (rs : List ℕ) (source : ℕ) (es : List ℕ) → ProfiledExactly B rs source es
profiled_exactly B rs source es =
    record {
      walks = λ e. fault_walks rs source es _ e;
      passes = λ e. passes B rs es (fault_last rs source es _ e);
      only = λ w f. no_fault rs source es (λ i. impassable_fault i (profile_of B (up_to rs es i))) w (λ i h. on f i);
    }
  where
    on : Passes B rs es → (i : ℕ) → impassable_fault i (profile_of B (up_to rs es i)) ≡ Ok tt
    on f i =
        prefix_passable i (profile_of B (up_to rs es i)) (profile_of B (roads_of rs (drop (i + 1) es)))
        (sym (compose B (up_to rs es i) (roads_of rs (drop (i + 1) es))) ∙ sym (ap (profile_of B) (split rs es i)) ∙ f.passable)
