-- Document 01's rows on both sides of the line that are marked P, as request [2] reads them, and its row without a chain of
-- roads: one table, on the bytes of network H.
use Rattle.std.specs.Prelude.{◌≡◌, List, [], ◌∷◌, ◌++◌, ℕ, ◌+◌, ◌≤◌, ℤ, pos, length, drop}
use Rattle.promises.specs.Promises.{Plans, Drives, Profiles}
use Rattle.promises.specs.declared.PlanNumbers.{PlanNumbers}
use Rattle.promises.specs.declared.PlanQuestion.{PlanQuestion}
use Rattle.promises.specs.declared.DriveNumbers.{DriveNumbers}
use Rattle.promises.specs.declared.DriveQuestion.{DriveQuestion}
use Rattle.hill.specs.Hill.{nodes, roads, asks}

-- what is asked and what is given
pub data Row : Type 0 where
  best : (battery start source target arrival : ℕ) (by : List ℕ) → Row
  no_route : (battery start source target number place : ℕ) → Row
  drive : (battery start source : ℕ) (by : List ℕ) (arrival spilled : ℕ) → Row
  profile : (battery source : ℕ) (by : List ℕ) (need : ℕ) (sum : ℤ) (top : ℕ) → Row

abbrev pub table : List Row
table =
    best 1000 900 0 3 100 (0 ∷ 1 ∷ 3 ∷ []) ∷
    best 1000 700 0 3 0 (0 ∷ 1 ∷ 3 ∷ []) ∷
    no_route 1000 699 0 3 10 700 ∷
    best 1000 300 0 2 500 (0 ∷ 1 ∷ []) ∷
    best 1000 299 0 2 199 (2 ∷ []) ∷
    best 1000 100 0 2 0 (2 ∷ []) ∷
    no_route 1000 99 0 2 10 100 ∷
    best 1000 0 1 1 0 [] ∷
    best 1100 900 0 3 200 (0 ∷ 1 ∷ 3 ∷ []) ∷
    no_route 899 899 0 3 16 0 ∷
    no_route 1000 1000 3 0 17 0 ∷
    drive 1000 1000 1 (1 ∷ []) 1000 500 ∷
    profile 1000 0 (0 ∷ 1 ∷ 3 ∷ []) 700 (pos 700) 100 ∷ []

-- best route, with a list that has room: these numbers and this list are what the promise allows, and nothing else is
pub record Only (q : PlanQuestion) (list : List ℕ) (numbers : PlanNumbers) (after : List ℕ) : Type 0 where
  pub allowed : Plans nodes roads q list numbers after
  pub only : (n : PlanNumbers) (xs : List ℕ) → Plans nodes roads q list n xs → (n ≡ numbers) × (xs ≡ after)

pub record BestRow (q : PlanQuestion) (arrival : ℕ) (by list : List ℕ) : Type 0 where
  pub numbers : PlanNumbers
  pub success : numbers.number ≡ 0
  pub arrival_is : numbers.arrival ≡ arrival
  pub roads_is : numbers.roads ≡ length by
  pub outcome : Only q list numbers (by ++ drop (length by) list)

pub record DriveRow (q : DriveQuestion) (by : List ℕ) (arrival spilled : ℕ) : Type 0 where
  pub numbers : DriveNumbers
  pub success : numbers.number ≡ 0
  pub arrival_is : numbers.arrival ≡ arrival
  pub spilled_is : numbers.spilled ≡ spilled
  pub allowed : Drives nodes roads q by numbers

-- what a row says
abbrev pub Says : Row → Type 0
Says (best m b s t a ks) = (list : List ℕ) → 3 ≤ length list → BestRow (asks m b s t) a ks list
Says (no_route m b s t n p) =
    (list : List ℕ) → 3 ≤ length list
    → Only (asks m b s t) list
    (record { number = n; place = p; roads = 0; arrival = 0; drawn = 0; recovered = 0; spilled = 0 }) list
Says (drive m b s ks a x) = DriveRow (record { battery = pos m; start = pos b; source = s }) ks a x
Says (profile m s ks n z t) =
    Profiles nodes roads (record { battery = pos m; source = s }) ks
    (record { number = 0; place = 0; need = n; sum = z; top = t })

abbrev pub Holds : List Row → Type 0
Holds [] = Unit {0}
Holds (r ∷ rs) = Says r × Holds rs

-- the one theorem that covers the table
abbrev pub TableHolds : Type 0
TableHolds = Holds table

-- the limit of demand 3 is not claimed of best arrivals: one unit more at the start brings 301 more at junction 2
abbrev pub OneMoreBrings301 : Type 0
OneMoreBrings301 =
    (list : List ℕ) (a b : PlanNumbers) (xs ys : List ℕ) → 3 ≤ length list
    → Plans nodes roads (asks 1000 299 0 2) list a xs → Plans nodes roads (asks 1000 300 0 2) list b ys
    → b.arrival ≡ a.arrival + 301
