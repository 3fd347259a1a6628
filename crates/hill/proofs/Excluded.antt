-- The promise of best route excludes document 01's five broken versions. Assumes nothing.
use mathlib.Core.Path.{◌≡◌, refl, sym, ap, ◌∙◌}
use mathlib.Core.List.{List, [], ◌∷◌, ◌++◌}
use Prim.Native.Nat.{ℕ, ◌≤◌}
use native.Mathlib.Omega.{arith}
use lib.ListN.{length, take, drop}
use lib.Seq.{take-append_seam}
use Rattle.numbers.specs.Signed.{draw}
use Rattle.battery.specs.Drive.{driven, drive, drive_all}
use Rattle.battery.specs.declared.Van.{Van}
use Rattle.refusals.proofs.Early.{number_pos}
use Rattle.journeys.specs.Walks.{roads_of}
use Rattle.promises.specs.Given.{plan_numbers, routed}
use Rattle.promises.specs.declared.PlanNumbers.{PlanNumbers}
use Rattle.hill.specs.Broken.{RefusesAll, OneFixedArrival, NeverWrites, only_subtracts, OnlySubtracts, InventsSpill}
use Rattle.hill.specs.Hill.{roads, sized, asks}
use Rattle.hill.specs.Table.{Only}
use Rattle.hill.proofs.Outcomes.{BestBy, best_only, best_arrival}
use Rattle.hill.proofs.Rows.{better}
use Rattle.hill.proofs.Walks.{to_3, hill_3}

-- start 900 from 0 to 3: the van at the end, and the one outcome
abbrev van_900 : Van
van_900 = record { battery = sized 1000; charge = 100; drawn = 1200; recovered = 500; spilled = 100 }

best_900 : BestBy (asks 1000 900 0 3) (0 ∷ 1 ∷ 3 ∷ []) van_900
unfolding drive_all drive driven
best_900 = better to_3 hill_3 refl refl tt

only_900 : (list : List ℕ) → 3 ≤ length list
    → Only (asks 1000 900 0 3) list (plan_numbers (routed 3 van_900)) (0 ∷ 1 ∷ 3 ∷ drop 3 list)
only_900 list h = best_only best_900 list h

pub refuses_all : RefusesAll
refuses_all list r xs h p =
    let e = ap (λ (n : PlanNumbers). n.number) ((only_900 list h).only _ xs p).0 in
    omega (arith, number_pos r)

pub one_fixed_arrival : OneFixedArrival
unfolding drive_all drive driven
one_fixed_arrival c list a b xs ys h p q d e =
    let x = best_arrival best_900 list h p in
    let y = best_arrival (better to_3 hill_3 refl refl tt) list h q in
    omega arith

pub never_writes : NeverWrites
never_writes list a h n p = n (ap (take 3) ((only_900 list h).only a list p).1)

-- three roads that stand first in a list
three_first : (ks xs ys : List ℕ) → length ks ≡ 3 → ks ++ xs ≡ 0 ∷ 1 ∷ 3 ∷ ys → ks ≡ 0 ∷ 1 ∷ 3 ∷ []
three_first ks xs ys l e = sym (take-append_seam ks xs) ∙ ap (λ (n : ℕ). take n (ks ++ xs)) l ∙ ap (take 3) e

pub only_subtracts_lem : OnlySubtracts
only_subtracts_lem list a ks h p l s =
    let o = (only_900 list h).only a _ p in
    let r = ap (λ (n : PlanNumbers). n.roads) o.0 in
    let c = ap (λ (n : PlanNumbers). n.arrival) o.0 in
    let k = three_first ks (drop (length ks) list) (drop 3 list) (sym l ∙ r) o.1 in
    let t = ap draw (s ∙ ap (λ (js : List ℕ). only_subtracts (sized 1000) 900 (roads_of roads js)) k) in
    omega arith

pub invents_spill : InventsSpill
invents_spill list a xs h p n = n (ap (λ (x : PlanNumbers). x.spilled) ((only_900 list h).only a xs p).0)
