-- The tests before a search, or before the first place of a route, give refusals for the input only. Assumes nothing.
use Rattle.std.specs.Prelude.{Err}
use mathlib.Core.Path.{◌≡◌, refl}
use mathlib.Core.Bool.{◌&&◌}
use mathlib.Core.List.{List}
use Prim.Native.Nat.{ℕ, ◌-◌}
use lib.Dec.{leb, ltb}
use lib.IntN.{ℤ}
use Rattle.refusals.proofs.Early.{Early, input, kind, unless_early, first_early, from_early, early_kind}
use Rattle.refusals.specs.Order.{first}
use Rattle.refusals.specs.Refusals.{number_of}
use Rattle.refusals.specs.declared.Refusal.{Refusal}
use Rattle.refusals.specs.declared.Refusal.TheVariants as refusal
use Rattle.battery.specs.declared.Road.{Road}
use Rattle.network.specs.Check.{files_fault, road_fault, potential_fault, record_fault, records_fault}
use Rattle.network.specs.Files.{junctions, road_count, road_of, potential, junction_file, road_file, is_junction, in_range, passes}
use Rattle.routes.specs.Places.{most_entries}
use Rattle.promises.specs.Order.{is_battery, is_start, energy_fault, junction_fault, plan_fault, drive_asked}
use Rattle.promises.specs.declared.DriveQuestion.{DriveQuestion}
use Rattle.promises.specs.declared.PlanQuestion.{PlanQuestion}

files_early : (ns rs : List ℕ) → Early (files_fault ns rs)
files_early ns rs =
    first_early (unless_early (junction_file ns) refusal.JunctionFile refl) (unless_early (road_file rs) refusal.RoadFile refl)

energy_early : (m b : ℤ) → Early (energy_fault m b)
energy_early m b =
    first_early (unless_early (is_battery m) refusal.Battery refl) (unless_early (is_start m b) refusal.Start refl)

junction_early : (ns : List ℕ) (v : ℕ) → Early (junction_fault ns v)
junction_early ns v = unless_early (is_junction ns v) refusal.NoJunction refl

record_early : (ns : List ℕ) (k : ℕ) (r : Road) → Early (record_fault ns k r)
unfolding road_fault potential_fault
record_early ns k r =
    let ends = unless_early (ltb r.tail (junctions ns) && ltb r.head (junctions ns)) (refusal.Ends k) refl in
    let range = unless_early (in_range r.consumption) (refusal.Consumption k) refl in
    let test = passes r.consumption (potential ns r.tail) (potential ns r.head) in
    first_early (first_early ends range) (unless_early test (refusal.Potential k) refl)

records_early : (ns rs : List ℕ) → Early (records_fault ns rs)
records_early ns rs = from_early _ (λ k. record_early ns k (road_of rs k)) (road_count rs) 0

plan_early : (ns rs : List ℕ) (q : PlanQuestion) (n : ℕ) → Early (plan_fault ns rs q n)
unfolding plan_fault
plan_early ns rs q n =
    let room = unless_early (leb (junctions ns - 1) n) refusal.ShortList refl in
    let ends = first_early (junction_early ns q.source) (first_early (junction_early ns q.target) room) in
    first_early (first_early (files_early ns rs) (first_early (energy_early q.battery q.start) ends)) (records_early ns rs)

pub drive_early : (ns rs : List ℕ) (q : DriveQuestion) (n : ℕ) → Early (first (drive_asked ns rs q n) (records_fault ns rs))
drive_early ns rs q n =
    let source = first_early (junction_early ns q.source) (unless_early (leb n most_entries) refusal.LongRoute refl) in
    first_early (first_early (files_early ns rs) (first_early (energy_early q.battery q.start) source)) (records_early ns rs)

-- what best route is refused with before its search
pub plan_kind : (ns rs : List ℕ) (q : PlanQuestion) (n : ℕ) {r : Refusal} → plan_fault ns rs q n ≡ Err r
    → kind (number_of r) ≡ input
plan_kind ns rs q n e = early_kind (plan_early ns rs q n) e
