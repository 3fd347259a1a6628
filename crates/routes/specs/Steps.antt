-- What the private steps of the two loops ask for and give. No promise cites this file.
use Rattle.std.specs.Prelude.{◌≡◌, List, ℕ, ◌*◌, ◌≤◌, ◌<◌, length, Err, Ok, Result, Some}
use Rattle.numbers.specs.Signed.{draw, gain}
use Rattle.battery.specs.Drive.{drive_all}
use Rattle.battery.specs.Profile.{profile_of}
use Rattle.battery.specs.Ready.{Ranged, Kept}
use Rattle.battery.specs.Rule.{most_battery, most_consumption}
use Rattle.battery.specs.declared.Battery.{Battery}
use Rattle.battery.specs.declared.Profile.{Profile}
use Rattle.battery.specs.declared.Van.{Van}
use Rattle.refusals.specs.Order.{first, Checked}
use Rattle.network.specs.Files.{road_count, road_of}
use Rattle.journeys.specs.Walks.{roads_of}
use Rattle.routes.specs.Places.{most_entries, entry_fault, begin_fault, drive_faults, profile_faults}
use Rattle.refusals.specs.declared.Refusal.{Refusal}

-- every record's consumption lies in its range
pub record RangedRoads (rs : List ℕ) : Type 0 where
  pub ranged : (k : ℕ) → k < road_count rs → Ranged (road_of rs k)

-- ---- 12 and 13

unfoldable pub enters : List ℕ → ℕ → ℕ → ℕ → Checked
enters rs e i at = first (entry_fault rs e i) (begin_fault (road_of rs e) i at)

-- ---- the drive

-- a van after i roads
pub record Bounded (i : ℕ) (v : Van) : Type 0 where
  pub battery_le : v.battery.size ≤ most_battery
  pub charge_le : v.charge ≤ v.battery.size
  pub drawn_le : v.drawn ≤ i * most_consumption
  pub recovered_le : v.recovered ≤ i * most_consumption
  pub spilled_le : v.spilled ≤ i * most_consumption

pub record DriveAsks (rs es : List ℕ) (v : Van) : Type 0 where
  pub roads_ranged : RangedRoads rs
  pub entries_le : length es ≤ most_entries
  pub bounded : Bounded 0 v

abbrev pub DriveKeeps : List ℕ → List ℕ → ℕ → Van → Result Van Refusal → Type 0
DriveKeeps rs es source v (Ok w) =
    (drive_faults rs source es v ≡ Ok tt) × (drive_all v (roads_of rs es) ≡ Some w)
DriveKeeps rs es source v (Err r) = drive_faults rs source es v ≡ Err r

-- ---- the profile

-- a profile of i roads, whose sum has room for one more
pub record Gathered (B : Battery) (i : ℕ) (p : Profile) : Type 0 where
  pub battery_le : B.size ≤ most_battery
  pub kept : Kept B p
  pub draw_le : draw p.sum ≤ i * most_consumption
  pub gain_le : gain p.sum ≤ i * most_consumption

pub record ProfileAsks (rs es : List ℕ) (B : Battery) : Type 0 where
  pub roads_ranged : RangedRoads rs
  pub entries_le : length es ≤ most_entries
  pub battery_le : B.size ≤ most_battery

abbrev pub ProfileKeeps : List ℕ → List ℕ → ℕ → Battery → Result Profile Refusal → Type 0
ProfileKeeps rs es source B (Ok p) =
    (profile_faults rs source es B ≡ Ok tt) × (profile_of B (roads_of rs es) ≡ Some p)
ProfileKeeps rs es source B (Err r) = profile_faults rs source es B ≡ Err r
