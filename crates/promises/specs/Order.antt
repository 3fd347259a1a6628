-- The order of the refusals of each entry: tests that several share, each named once, and the entry's own list. ns and rs are
-- the bytes of the two files, es is the given route. (The network check's order is `check_fault` of the crate network.)
use Rattle.std.specs.Prelude.{Bool, ◌&&◌, List, ℕ, ◌-◌, leb, ℤ, pos, length}
use Rattle.std.specs.Int.Signed.{le_z}
use Rattle.numbers.specs.Signed.{draw}
use Rattle.refusals.specs.Order.{unless, first, Checked}
use Rattle.refusals.specs.declared.Refusal.TheVariants as refusal
use Rattle.battery.specs.Drive.{fresh}
use Rattle.battery.specs.Rule.{most_battery}
use Rattle.battery.specs.declared.Battery.{Battery}
use Rattle.battery.specs.declared.Van.{Van}
use Rattle.network.specs.Check.{files_fault, records_fault}
use Rattle.network.specs.Files.{junctions, is_junction}
use Rattle.routes.specs.Places.{most_entries, drive_faults, profile_faults}
use Rattle.promises.specs.declared.DriveQuestion.{DriveQuestion}
use Rattle.promises.specs.declared.PlanQuestion.{PlanQuestion}
use Rattle.promises.specs.declared.ProfileQuestion.{ProfileQuestion}
use Rattle.promises.specs.declared.SetOffQuestion.{SetOffQuestion}

-- ---- the tests

-- battery size in 1 to 200,000,000
abbrev pub is_battery : ℤ → Bool
is_battery m = le_z (pos 1) m && le_z m (pos most_battery)

-- start charge from 0 to the battery size
abbrev pub is_start : ℤ → ℤ → Bool
is_start m b = le_z (pos 0) b && le_z b m

-- 3
abbrev pub battery_fault : ℤ → Checked
battery_fault m = unless (is_battery m) refusal.Battery

-- 3, 4
abbrev pub energy_fault : ℤ → ℤ → Checked
energy_fault m b = first (battery_fault m) (unless (is_start m b) refusal.Start)

-- 5: v is a junction
abbrev pub junction_fault : List ℕ → ℕ → Checked
junction_fault ns v = unless (is_junction ns v) refusal.NoJunction

-- 6: a lent list of n entries has room for m
abbrev pub room_fault : ℕ → ℕ → Checked
room_fault m n = unless (leb m n) refusal.ShortList

-- 11: at most 8,192 roads
abbrev pub length_fault : ℕ → Checked
length_fault n = unless (leb n most_entries) refusal.LongRoute

-- ---- what is asked; once 3 and 4 have passed neither number is below 0

abbrev pub battery_of : ℤ → Battery
battery_of m = record { size = draw m }

-- the van that sets out
abbrev pub van_of : DriveQuestion → Van
van_of q = fresh (battery_of q.battery) (draw q.start)

abbrev pub plan_van : PlanQuestion → Van
plan_van q = fresh (battery_of q.battery) (draw q.start)

-- ---- the entries

-- best route, with a lent list of n entries: 1 to 6 in order, then the records. 10, 16 and 17 come after these: see the promise
abbrev pub plan_asked : List ℕ → List ℕ → PlanQuestion → ℕ → Checked
plan_asked ns rs q n =
    first (files_fault ns rs)
    (first (energy_fault q.battery q.start)
    (first (junction_fault ns q.source) (first (junction_fault ns q.target) (room_fault (junctions ns - 1) n))))

unfoldable pub plan_fault : List ℕ → List ℕ → PlanQuestion → ℕ → Checked
plan_fault ns rs q n = first (plan_asked ns rs q n) (records_fault ns rs)

-- drive of n roads: 1, 2, 3, 4, 5 (source), 11, the records; then place by place 12, 13, 14
abbrev pub drive_asked : List ℕ → List ℕ → DriveQuestion → ℕ → Checked
drive_asked ns rs q n =
    first (files_fault ns rs)
    (first (energy_fault q.battery q.start) (first (junction_fault ns q.source) (length_fault n)))

unfoldable pub drive_fault : List ℕ → List ℕ → DriveQuestion → List ℕ → Checked
drive_fault ns rs q es =
    first (first (drive_asked ns rs q (length es)) (records_fault ns rs)) (drive_faults rs q.source es (van_of q))

-- profile of n roads: 1, 2, 3, 5 (source), 11, the records; then place by place 12, 13, 15
abbrev pub profile_asked : List ℕ → List ℕ → ProfileQuestion → ℕ → Checked
profile_asked ns rs q n =
    first (files_fault ns rs) (first (battery_fault q.battery) (first (junction_fault ns q.source) (length_fault n)))

unfoldable pub profile_fault : List ℕ → List ℕ → ProfileQuestion → List ℕ → Checked
profile_fault ns rs q es =
    first (first (profile_asked ns rs q (length es)) (records_fault ns rs))
    (profile_faults rs q.source es (battery_of q.battery))

-- the charges to set off with, with a lent list of n entries: 1, 2, 3, 5 (depot), 6, then the records
abbrev pub set_off_asked : List ℕ → List ℕ → SetOffQuestion → ℕ → Checked
set_off_asked ns rs q n =
    first (files_fault ns rs) (first (battery_fault q.battery) (first (junction_fault ns q.depot) (room_fault (junctions ns) n)))

unfoldable pub set_off_fault : List ℕ → List ℕ → SetOffQuestion → ℕ → Checked
set_off_fault ns rs q n = first (set_off_asked ns rs q n) (records_fault ns rs)
