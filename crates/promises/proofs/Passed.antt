-- What the tests of each entry tell where all pass. Assumes nothing.
use Rattle.std.specs.Prelude.{Ok}
use mathlib.Core.Path.{◌≡◌}
use mathlib.Core.Bool.{true}
use mathlib.Core.List.{List}
use Prim.Native.Nat.{ℕ, ◌-◌, ◌≤◌}
use native.Mathlib.Omega.{arith}
use borrow.Author.Tests.{leb-true, le-leb, ltb-true}
use lib.Dec.{leb}
use lib.IntN.{ℤ, pos, negsuc}
use lib.Signed.{le_z}
use Rattle.numbers.specs.Signed.{draw}
use Rattle.refusals.proofs.Faults.{first_passed, unless_passed, both_true}
use Rattle.refusals.specs.Order.{first}
use Rattle.refusals.specs.declared.Refusal.TheVariants as refusal
use Rattle.battery.specs.Rule.{most_battery}
use Rattle.network.proofs.Records.{few_junctions, few_roads}
use Rattle.network.specs.Check.{files_fault, records_fault}
use Rattle.network.specs.Files.{junctions, junction_file, road_file, is_junction}
use Rattle.routes.specs.Places.{most_entries}
use Rattle.promises.specs.Order.{is_battery, is_start, battery_fault, energy_fault, junction_fault, room_fault, length_fault, plan_asked, plan_fault, drive_asked, profile_asked, set_off_asked, set_off_fault}
use Rattle.promises.specs.Passed.{Whole, FilesPassed, PlanPassed, RoutePassed, SetOffPassed}
use Rattle.promises.specs.declared.PlanQuestion.{PlanQuestion}
use Rattle.promises.specs.declared.DriveQuestion.{DriveQuestion}
use Rattle.promises.specs.declared.ProfileQuestion.{ProfileQuestion}
use Rattle.promises.specs.declared.SetOffQuestion.{SetOffQuestion}

-- ---- 3 and 4, in naturals

pub battery_whole : (m : ℤ) → is_battery m ≡ true → Whole m
battery_whole (pos n) e =
    let h = leb-true n most_battery (both_true (le_z (pos 1) (pos n)) (leb n most_battery) e).1 in
    record { from_0 = le-leb 0 n (omega arith); draw_le = h }
battery_whole (negsuc n) e = let z : ◌≡◌ {A = ℕ} 0 1 = cc in absurd (omega arith)

pub start_whole : (m b : ℤ) → is_battery m ≡ true → is_start m b ≡ true → Whole b × (draw b ≤ draw m)
start_whole (pos n) (pos k) e f =
    let h = leb-true n most_battery (both_true (le_z (pos 1) (pos n)) (leb n most_battery) e).1 in
    let g = leb-true k n (both_true (le_z (pos 0) (pos k)) (leb k n) f).1 in
    (record { from_0 = le-leb 0 k (omega arith); draw_le = omega arith }, g)
start_whole (pos n) (negsuc k) e f = let z : ◌≡◌ {A = ℕ} 0 1 = cc in absurd (omega arith)
start_whole (negsuc n) b e f = let z : ◌≡◌ {A = ℕ} 0 1 = cc in absurd (omega arith)

-- ---- one test, or two

files_passed : (ns rs : List ℕ) → files_fault ns rs ≡ Ok tt → records_fault ns rs ≡ Ok tt → FilesPassed ns rs
files_passed ns rs e r =
    let a = first_passed _ _ e in
    let n = unless_passed (junction_file ns) refusal.JunctionFile a.0 in
    let k = unless_passed (road_file rs) refusal.RoadFile a.1 in
    record { nodes_ok = n; roads_ok = k; few = few_junctions ns n; few_roads = few_roads rs k; records_ok = r }

battery_passed : (m : ℤ) → battery_fault m ≡ Ok tt → is_battery m ≡ true
battery_passed m e = unless_passed (is_battery m) refusal.Battery e

energy_passed : (m b : ℤ) → energy_fault m b ≡ Ok tt → (is_battery m ≡ true) × (is_start m b ≡ true)
energy_passed m b e =
    let a = first_passed _ _ e in
    (battery_passed m a.0, unless_passed (is_start m b) refusal.Start a.1)

junction_passed : (ns : List ℕ) (v : ℕ) → junction_fault ns v ≡ Ok tt → is_junction ns v ≡ true
junction_passed ns v e = unless_passed (is_junction ns v) refusal.NoJunction e

room_passed : (m n : ℕ) → room_fault m n ≡ Ok tt → m ≤ n
room_passed m n e = leb-true m n (unless_passed (leb m n) refusal.ShortList e)

length_passed : (n : ℕ) → length_fault n ≡ Ok tt → n ≤ most_entries
length_passed n e = leb-true n most_entries (unless_passed (leb n most_entries) refusal.LongRoute e)

-- ---- the entries

pub plan_passed : (ns rs : List ℕ) (q : PlanQuestion) (n : ℕ) → plan_fault ns rs q n ≡ Ok tt → PlanPassed ns rs q n
unfolding plan_fault
plan_passed ns rs q n e =
    let records = first_passed (plan_asked ns rs q n) _ e in
    let files = first_passed _ _ records.0 in
    let energy = first_passed _ _ files.1 in
    let source = first_passed _ _ energy.1 in
    let target = first_passed _ _ source.1 in
    let numbers = energy_passed q.battery q.start energy.0 in
    let room = room_passed (junctions ns - 1) n target.1 in
    record {
      files = files_passed ns rs files.0 records.1;
      battery_ok = numbers.0;
      start_ok = numbers.1;
      source_in = ltb-true _ _ (junction_passed ns q.source source.0);
      target_in = ltb-true _ _ (junction_passed ns q.target target.0);
      room = omega arith;
    }

pub drive_passed : (ns rs : List ℕ) (q : DriveQuestion) (n : ℕ) → first (drive_asked ns rs q n) (records_fault ns rs) ≡ Ok tt
    → RoutePassed ns rs q.battery n × (is_start q.battery q.start ≡ true)
drive_passed ns rs q n e =
    let records = first_passed (drive_asked ns rs q n) _ e in
    let files = first_passed _ _ records.0 in
    let energy = first_passed _ _ files.1 in
    let numbers = energy_passed q.battery q.start energy.0 in (
      record {
        files = files_passed ns rs files.0 records.1;
        battery_ok = numbers.0;
        entries_le = length_passed n (first_passed (junction_fault ns q.source) _ energy.1).1;
      },
      numbers.1,
    )

pub profile_passed : (ns rs : List ℕ) (q : ProfileQuestion) (n : ℕ) → first (profile_asked ns rs q n) (records_fault ns rs) ≡ Ok tt
    → RoutePassed ns rs q.battery n
profile_passed ns rs q n e =
    let records = first_passed (profile_asked ns rs q n) _ e in
    let files = first_passed _ _ records.0 in
    let battery = first_passed _ _ files.1 in
    record {
      files = files_passed ns rs files.0 records.1;
      battery_ok = battery_passed q.battery battery.0;
      entries_le = length_passed n (first_passed (junction_fault ns q.source) _ battery.1).1;
    }

pub set_off_passed : (ns rs : List ℕ) (q : SetOffQuestion) (n : ℕ) → set_off_fault ns rs q n ≡ Ok tt → SetOffPassed ns rs q n
unfolding set_off_fault
set_off_passed ns rs q n e =
    let records = first_passed (set_off_asked ns rs q n) _ e in
    let files = first_passed _ _ records.0 in
    let battery = first_passed _ _ files.1 in
    let depot = first_passed _ _ battery.1 in
    let d = junction_passed ns q.depot depot.0 in
    record {
      files = files_passed ns rs files.0 records.1;
      battery_ok = battery_passed q.battery battery.0;
      depot_ok = d;
      depot_in = ltb-true _ _ d;
      room = room_passed (junctions ns) n depot.1;
    }
