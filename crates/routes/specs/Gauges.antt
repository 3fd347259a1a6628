-- What is read along a route: what the code that follows a route asks and keeps of any gauge, and the two gauges, the van of a
-- drive and the profile. No promise cites this file.
use Rattle.std.specs.Prelude.{◌≡◌, List, [], ◌∷◌, ◌++◌, ℕ, ◌+◌, ◌≤◌, length, Result, Ok, Err, Option, Some, None, option_map}
use Rattle.battery.specs.Profile.{no_roads, followed_by, one_road, profile_of}
use Rattle.battery.specs.Ready.{Ranged}
use Rattle.battery.specs.Rule.{most_battery}
use Rattle.battery.specs.declared.Battery.{Battery}
use Rattle.battery.specs.declared.Profile.{Profile}
use Rattle.battery.specs.declared.Road.{Road}
use Rattle.journeys.specs.Walks.{roads_of}
use Rattle.refusals.specs.declared.Refusal.{Refusal}
use Rattle.routes.specs.Places.{most_entries, stopped, up_to, route_fault}
use Rattle.routes.specs.Steps.{RangedRoads, Gathered}
use Rattle.routes.specs.declared.Profiler.{Profiler}

-- the reading after one road more, or the refusal q where there is none
abbrev pub passed : {S : Type 0} → Refusal → Option S → Result S Refusal
passed q (Some t) = Ok t
passed q None = Err q

-- what each gauge proves: what is known of all roads of a route is read road by road, with room for one road more
pub record GaugeLaws {S : Type 0} (Begins : S → Type 0) (Fits : ℕ → S → Type 0) (passes : S → Road → Option S) (along : S → List Road → Option S) : Type 0 where
  pub starts : (s : S) → Begins s → along s [] ≡ Some s
  pub fits : (s : S) → Begins s → Fits 0 s
  pub goes_on : (s t : S) (rs : List Road) (r : Road) → Begins s → along s rs ≡ Some t → along s (rs ++ (r ∷ [])) ≡ passes t r
  pub keeps : (i : ℕ) (t u : S) (r : Road) → Ranged r → Fits i t → passes t r ≡ Some u → Fits (i + 1) u

-- ---- a route followed

pub record FollowAsks {S : Type 0} (Begins : S → Type 0) (rs es : List ℕ) (s : S) : Type 0 where
  pub roads_ranged : RangedRoads rs
  pub entries_le : length es ≤ most_entries
  pub begins : Begins s

-- the first fault, or that there is none and what is read at the route's end
abbrev pub Follows : {S : Type 0} → (S → List Road → Option S) → (ℕ → Refusal) → List ℕ → ℕ → List ℕ → S → Result S Refusal → Type 0
Follows along fault rs source es s (Ok t) =
    (route_fault rs source es (λ i. stopped (fault i) (along s (up_to rs es i))) ≡ Ok tt) × (along s (roads_of rs es) ≡ Some t)
Follows along fault rs source es s (Err r) = route_fault rs source es (λ i. stopped (fault i) (along s (up_to rs es i))) ≡ Err r

-- ---- the profile, with its battery

abbrev pub with_battery : Battery → Profile → Profiler
with_battery B p = record { battery = B; profile = p }

abbrev pub profile_passes : Profiler → Road → Option Profiler
profile_passes t r = option_map (with_battery t.battery) (followed_by (Some t.profile) (one_road t.battery r))

abbrev pub profile_along : Profiler → List Road → Option Profiler
profile_along s rs = option_map (with_battery s.battery) (profile_of s.battery rs)

pub record ProfileBegins (s : Profiler) : Type 0 where
  pub battery_le : s.battery.size ≤ most_battery
  pub no_road : s.profile ≡ no_roads s.battery

abbrev pub ProfileFits : ℕ → Profiler → Type 0
ProfileFits i t = Gathered t.battery i t.profile
