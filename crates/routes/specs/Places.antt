-- The faults of a given route, place by place. rs is the road file, es the route: road numbers.
use Rattle.std.specs.Prelude.{List, ℕ, zero, suc, ◌+◌, ltb, eqb, length, get_or, take, Err, None, Ok, Option, Some}
use Rattle.battery.specs.Drive.{drive_all}
use Rattle.battery.specs.Profile.{profile_of}
use Rattle.battery.specs.declared.Battery.{Battery}
use Rattle.battery.specs.declared.Road.{Road}
use Rattle.battery.specs.declared.Van.{Van}
use Rattle.refusals.specs.Order.{unless, first, first_from, Checked}
use Rattle.network.specs.Files.{road_count, road_of}
use Rattle.journeys.specs.Walks.{roads_of}
use Rattle.refusals.specs.declared.Refusal.{Refusal}
use Rattle.refusals.specs.declared.Refusal.TheVariants as refusal
use Rattle.battery.specs.declared.Profile.{Profile}

-- the most entries of a given route
abbrev pub most_entries : ℕ
most_entries = 8192

-- the entry at place i
abbrev pub entry_at : List ℕ → ℕ → ℕ
entry_at es i = get_or es i 0

-- the junction where the van stands before place i
abbrev pub stands_at : List ℕ → ℕ → List ℕ → ℕ → ℕ
stands_at rs source es zero = source
stands_at rs source es (suc i) = (road_of rs (entry_at es i)).head

-- the route up to and with the road at place i
abbrev pub up_to : List ℕ → List ℕ → ℕ → List Road
up_to rs es i = roads_of rs (take (i + 1) es)

-- 12: the entry e of place i is a road
abbrev pub entry_fault : List ℕ → ℕ → ℕ → Checked
entry_fault rs e i = unless (ltb e (road_count rs)) (refusal.NotRoad i)

-- 13: the road r of place i begins at the junction `at`
abbrev pub begin_fault : Road → ℕ → ℕ → Checked
begin_fault r i at = unless (eqb r.tail at) (refusal.NotHere i)

-- place i: 12, 13, and then what `last` tells
unfoldable pub place_fault : List ℕ → ℕ → List ℕ → ℕ → Checked → Checked
place_fault rs source es i last =
    first (entry_fault rs (entry_at es i) i)
    (first (begin_fault (road_of rs (entry_at es i)) i (stands_at rs source es i)) last)

-- the whole route: 12, 13 and what `last` tells, at each place before the next
abbrev pub route_fault : List ℕ → ℕ → List ℕ → (ℕ → Checked) → Checked
route_fault rs source es last = first_from (λ i. place_fault rs source es i (last i)) (length es) 0

-- refused with q where there is none
abbrev pub stopped : {A : Type 0} → Refusal → Option A → Checked
stopped q (Some a) = Ok tt
stopped q None = Err q

-- 14: charge is too low for the road
abbrev pub low_fault : ℕ → Option Van → Checked
low_fault i = stopped (refusal.TooLow i)

-- the drive by the van v from the junction source: 12, 13, 14
abbrev pub drive_faults : List ℕ → ℕ → List ℕ → Van → Checked
drive_faults rs source es v = route_fault rs source es (λ i. low_fault i (drive_all v (up_to rs es i)))

-- 15: the route up to and with the road is impassable at every charge
abbrev pub impassable_fault : ℕ → Option Profile → Checked
impassable_fault i = stopped (refusal.Impassable i)

-- the profile with the battery B: 12, 13, 15
abbrev pub profile_faults : List ℕ → ℕ → List ℕ → Battery → Checked
profile_faults rs source es B = route_fault rs source es (λ i. impassable_fault i (profile_of B (up_to rs es i)))
