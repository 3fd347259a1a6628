-- Document 01's five broken versions of best route. On network H, battery 1,000, no outcome that such a version could give
-- meets the promise.
use Rattle.std.specs.Prelude.{◌≡◌, List, [], ◌∷◌, ◌++◌, ◌≢◌, ℕ, ◌≤◌, ℤ, pos, ◌-ℤ◌, length, take, drop, Err}
use Rattle.battery.specs.Rule.{charge_after}
use Rattle.battery.specs.declared.Battery.{Battery}
use Rattle.battery.specs.declared.Road.{Road}
use Rattle.journeys.specs.Walks.{roads_of, sum_of}
use Rattle.refusals.specs.declared.Refusal.{Refusal}
use Rattle.promises.specs.Given.{plan_numbers}
use Rattle.promises.specs.Promises.{Plans}
use Rattle.promises.specs.declared.PlanNumbers.{PlanNumbers}
use Rattle.hill.specs.Hill.{nodes, roads, sized, asks}

-- refuses all queries: start 900 from 0 to 3 has a route
abbrev pub RefusesAll : Type 0
RefusesAll =
    (list : List ℕ) (r : Refusal) (xs : List ℕ) → 3 ≤ length list
    → Plans nodes roads (asks 1000 900 0 3) list (plan_numbers (Err r)) xs → ⊥

-- reports one fixed arrival c: starts 900 and 700 from 0 to 3 arrive with different charges
abbrev pub OneFixedArrival : Type 0
OneFixedArrival =
    (c : ℕ) (list : List ℕ) (a b : PlanNumbers) (xs ys : List ℕ) → 3 ≤ length list
    → Plans nodes roads (asks 1000 900 0 3) list a xs → Plans nodes roads (asks 1000 700 0 3) list b ys
    → a.arrival ≡ c → b.arrival ≡ c → ⊥

-- never writes the route: start 900 from 0 to 3, with any list that does not happen to begin with 0, 1, 3
abbrev pub NeverWrites : Type 0
NeverWrites =
    (list : List ℕ) (a : PlanNumbers) → 3 ≤ length list → take 3 list ≢ 0 ∷ 1 ∷ 3 ∷ []
    → Plans nodes roads (asks 1000 900 0 3) list a list → ⊥

-- the rule applied to the first road, and only subtracted afterwards
abbrev pub only_subtracts : Battery → ℕ → List Road → ℤ
only_subtracts B b [] = pos b
only_subtracts B b (r ∷ rs) = pos (charge_after B b r) -ℤ sum_of rs

-- reports that for the route ks which it gives: start 900 from 0 to 3, where it would be 200
abbrev pub OnlySubtracts : Type 0
OnlySubtracts =
    (list : List ℕ) (a : PlanNumbers) (ks : List ℕ) → 3 ≤ length list
    → Plans nodes roads (asks 1000 900 0 3) list a (ks ++ drop (length ks) list) → a.roads ≡ length ks
    → pos a.arrival ≡ only_subtracts (sized 1000) 900 (roads_of roads ks) → ⊥

-- invents the spilled total: start 900 from 0 to 3, where the drive spills 100
abbrev pub InventsSpill : Type 0
InventsSpill =
    (list : List ℕ) (a : PlanNumbers) (xs : List ℕ) → 3 ≤ length list
    → Plans nodes roads (asks 1000 900 0 3) list a xs → a.spilled ≢ 100 → ⊥
