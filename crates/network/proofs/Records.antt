-- What the tests of the files and of their records tell where all pass. Assumes nothing.
use Rattle.std.specs.Prelude.{Ok}
use mathlib.Core.Path.{◌≡◌}
use mathlib.Core.Bool.{true}
use mathlib.Core.List.{List}
use Prim.Native.Nat.{ℕ, ◌-◌, ◌%◌, ◌≤◌, ◌<◌}
use native.Mathlib.Omega.{arith}
use borrow.Author.Tests.{ltb-true, leb-true}
use lib.Dec.{ltb, leb, eqb}
use lib.IntN.{ℤ, pos, negsuc, neg_ℤ}
use lib.ListN.{length}
use lib.Signed.{le_z}
use Rattle.numbers.specs.Signed.{draw, gain}
use Rattle.battery.specs.Ready.{Ranged}
use Rattle.battery.specs.Rule.{most_consumption}
use Rattle.battery.specs.declared.Road.{Road}
use Rattle.refusals.proofs.Faults.{first_passed, unless_passed, both_true, all_passed}
use Rattle.network.specs.Check.{road_fault, potential_fault, record_fault, records_fault}
use Rattle.network.specs.Files.{junction_bytes, road_bytes, most_junctions, most_roads, junctions, road_count, junction_file, road_file, road_of, potential, in_range, passes}

-- ---- 1, 2: how many records there are

pub few_junctions : (ns : List ℕ) → junction_file ns ≡ true → junctions ns ≤ most_junctions
few_junctions ns e =
    let n = (both_true (ltb 0 (length ns)) _ e).1 in
    leb-true _ _ (both_true (eqb (length ns % junction_bytes) 0) (leb (junctions ns) most_junctions) n).1

pub few_roads : (rs : List ℕ) → road_file rs ≡ true → road_count rs ≤ most_roads
few_roads rs e = leb-true _ _ (both_true (eqb (length rs % road_bytes) 0) (leb (road_count rs) most_roads) e).1

-- ---- 7, 8, 9

-- what a record that passes has: among n junctions, and with the potentials of ns
pub record SoundRoad (n : ℕ) (r : Road) : Type 0 where
  pub tail_lt : r.tail < n
  pub head_lt : r.head < n
  pub ranged : in_range r.consumption ≡ true

pub record Sound (ns : List ℕ) (r : Road) : Type 0 where
  pub road : SoundRoad (junctions ns) r
  pub passing : passes r.consumption (potential ns r.tail) (potential ns r.head) ≡ true

pub road_sound : (n k : ℕ) (r : Road) → road_fault n k r ≡ Ok tt → SoundRoad n r
unfolding road_fault
road_sound n k r e =
    let a = first_passed _ _ e in
    let d = both_true _ _ (unless_passed _ _ a.0) in
    record { tail_lt = ltb-true _ _ d.0; head_lt = ltb-true _ _ d.1; ranged = unless_passed _ _ a.1 }

record_sound : (ns : List ℕ) (k : ℕ) (r : Road) → record_fault ns k r ≡ Ok tt → Sound ns r
unfolding potential_fault
record_sound ns k r e =
    let a = first_passed _ _ e in
    record { road = road_sound (junctions ns) k r a.0; passing = unless_passed _ _ a.1 }

pub all_sound : (ns rs : List ℕ) → records_fault ns rs ≡ Ok tt → (k : ℕ) → k < road_count rs → Sound ns (road_of rs k)
all_sound ns rs e k h = record_sound ns k (road_of rs k) (all_passed (λ j. record_fault ns j (road_of rs j)) (road_count rs) e k h)

-- ---- 8, in naturals

draw_ranged : (c : ℤ) → le_z c (pos most_consumption) ≡ true → draw c ≤ most_consumption
draw_ranged (pos n) h = leb-true n most_consumption h
draw_ranged (negsuc n) h = omega arith

gain_ranged : (c : ℤ) → le_z (neg_ℤ (pos most_consumption)) c ≡ true → gain c ≤ most_consumption
gain_ranged (pos n) h = omega arith
gain_ranged (negsuc n) h = let k = leb-true n (most_consumption - 1) h in omega arith

pub all_ranged : (ns rs : List ℕ) → records_fault ns rs ≡ Ok tt → (k : ℕ) → k < road_count rs → Ranged (road_of rs k)
all_ranged ns rs e k h =
    let c = (road_of rs k).consumption in
    let b = both_true (le_z (neg_ℤ (pos most_consumption)) c) (le_z c (pos most_consumption)) (all_sound ns rs e k h).road.ranged in
    record { draw_le = draw_ranged c b.1; gain_le = gain_ranged c b.0 }
