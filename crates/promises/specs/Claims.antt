-- What is proved of the promises. The proofs are in proofs/.
use Rattle.std.specs.Prelude.{◌≡◌, true, List, ◌++◌, ◌⊎◌, ◌≢◌, ℕ, ◌+◌, ◌-◌, ◌≤◌, ◌<◌, max, length, Ok, Some}
use Rattle.std.specs.Int.Signed.{le_z}
use Rattle.numbers.specs.Signed.{draw}
use Rattle.battery.specs.Drive.{fresh, drive_all}
use Rattle.battery.specs.declared.Battery.{Battery}
use Rattle.battery.specs.declared.Road.{Road}
use Rattle.battery.specs.declared.Van.{Van}
use Rattle.network.specs.Files.{road_count, road_of, Passing}
use Rattle.journeys.specs.Reasons.{Joined}
use Rattle.journeys.specs.SetOff.{Enough}
use Rattle.journeys.specs.Walks.{Walk, roads_of}
use Rattle.promises.specs.Order.{battery_of, plan_fault}
use Rattle.promises.specs.Promises.{NoWalk, Checks, Plans, Drives, Profiles}
use Rattle.promises.specs.declared.PlanNumbers.{PlanNumbers}
use Rattle.promises.specs.declared.PlanQuestion.{PlanQuestion}
use Rattle.promises.specs.declared.CheckNumbers.{CheckNumbers}
use Rattle.promises.specs.declared.DriveNumbers.{DriveNumbers}
use Rattle.promises.specs.declared.ProfileNumbers.{ProfileNumbers}
use Rattle.promises.specs.declared.DriveQuestion.{DriveQuestion}
use Rattle.promises.specs.declared.ProfileQuestion.{ProfileQuestion}

-- one outcome: any two that a promise allows on the same input are equal
abbrev pub OneCheck : Type 0
OneCheck = (ns rs : List ℕ) (a b : CheckNumbers) → Checks ns rs a → Checks ns rs b → a ≡ b

-- best route: two outcomes agree in number, place and arrival. A refusal leaves nothing free; of equally good routes any may
-- be given, and with the same list all numbers are the same
pub record Agree (a b : PlanNumbers) (xs ys : List ℕ) : Type 0 where
  pub number_is : a.number ≡ b.number
  pub place_is : a.place ≡ b.place
  pub arrival_is : a.arrival ≡ b.arrival
  pub refusal : a.number ≢ 0 → (a ≡ b) × (xs ≡ ys)
  pub chosen : xs ≡ ys → a ≡ b

abbrev pub OnePlan : Type 0
OnePlan =
    (ns rs : List ℕ) (q : PlanQuestion) (list : List ℕ) (a b : PlanNumbers) (xs ys : List ℕ)
    → Plans ns rs q list a xs → Plans ns rs q list b ys → Agree a b xs ys

abbrev pub OneDrive : Type 0
OneDrive =
    (ns rs : List ℕ) (q : DriveQuestion) (es : List ℕ) (a b : DriveNumbers)
    → Drives ns rs q es a → Drives ns rs q es b → a ≡ b

abbrev pub OneProfile : Type 0
OneProfile =
    (ns rs : List ℕ) (q : ProfileQuestion) (es : List ℕ) (a b : ProfileNumbers)
    → Profiles ns rs q es a → Profiles ns rs q es b → a ≡ b

-- of two drives: the second is driven too, arrives with no less, and with more by at most the larger of the two increases
pub record NoLess (q q' : DriveQuestion) (a b : DriveNumbers) : Type 0 where
  pub drivable : b.number ≡ 0
  pub no_less : a.arrival ≤ b.arrival
  pub at_most :
      b.arrival ≤ a.arrival + max (draw q'.battery - draw q.battery) (draw q'.start - draw q.start)

-- demand 3 on one fixed route. Two queries, each with files and road numbers of its own; the roads agree place by place in
-- ends and consumption; battery and start are no lower; the first is drivable, and the second is refused, if at all, only
-- because its charge is too low (14)
abbrev pub FixedRoute : Type 0
FixedRoute =
    (ns rs ns' rs' : List ℕ) (q q' : DriveQuestion) (es es' : List ℕ) (a b : DriveNumbers)
    → Drives ns rs q es a → Drives ns' rs' q' es' b
    → roads_of rs es ≡ roads_of rs' es'
    → le_z q.battery q'.battery ≡ true → le_z q.start q'.start ≡ true
    → a.number ≡ 0 → (b.number ≡ 0) ⊎ (b.number ≡ 14)
    → NoLess q q' a b

-- the numbers for no route
abbrev pub NoRoute : ℕ → Type 0
NoRoute n = (n ≡ 10) ⊎ ((n ≡ 16) ⊎ (n ≡ 17))

-- one of them exactly when no feasible walk exists and none of 1 to 9 applies
pub record Exactly (ns rs : List ℕ) (q : PlanQuestion) (list : List ℕ) (a : PlanNumbers) : Type 0 where
  pub means : NoRoute a.number → (plan_fault ns rs q (length list) ≡ Ok tt) × NoWalk rs q
  pub given : plan_fault ns rs q (length list) ≡ Ok tt → NoWalk rs q → NoRoute a.number

abbrev pub NoRouteExactly : Type 0
NoRouteExactly =
    (ns rs : List ℕ) (q : PlanQuestion) (list : List ℕ) (a : PlanNumbers) (xs : List ℕ)
    → Plans ns rs q list a xs → Exactly ns rs q list a

-- from the start charge b, up to a full battery, some walk is feasible
abbrev pub WouldDo : List ℕ → PlanQuestion → ℕ → Type 0
WouldDo rs q b = Enough (battery_of q.battery) rs q.source q.target b

-- p is the least of these, and above the start given
pub record LeastStart (rs : List ℕ) (q : PlanQuestion) (p : ℕ) : Type 0 where
  pub would_do : WouldDo rs q p
  pub least : (b : ℕ) → WouldDo rs q b → p ≤ b
  pub above : draw q.start < p

-- 16 and 17 have place 0; no start would do, and a chain of roads joins source and target, or none does
pub record NoStart (rs : List ℕ) (q : PlanQuestion) (p : ℕ) : Type 0 where
  pub place_is : p ≡ 0
  pub never : (b : ℕ) → WouldDo rs q b → ⊥
  pub joined : Joined rs q.source q.target

pub record NoChain (rs : List ℕ) (q : PlanQuestion) (p : ℕ) : Type 0 where
  pub place_is : p ≡ 0
  pub none : Joined rs q.source q.target → ⊥

-- which of the three it is, where no feasible walk exists and none of 1 to 9 applies
pub record WhichReason (ns rs : List ℕ) (q : PlanQuestion) (list : List ℕ) (a : PlanNumbers) : Type 0 where
  pub ten_means : a.number ≡ 10 → LeastStart rs q a.place
  pub ten_given : plan_fault ns rs q (length list) ≡ Ok tt → NoWalk rs q → (b : ℕ) → WouldDo rs q b → a.number ≡ 10
  pub sixteen_means : a.number ≡ 16 → NoStart rs q a.place
  pub sixteen_given : plan_fault ns rs q (length list) ≡ Ok tt → ((b : ℕ) → WouldDo rs q b → ⊥) → Joined rs q.source q.target
      → a.number ≡ 16
  pub seventeen_means : a.number ≡ 17 → NoChain rs q a.place
  pub seventeen_given : plan_fault ns rs q (length list) ≡ Ok tt → (Joined rs q.source q.target → ⊥) → a.number ≡ 17

abbrev pub ReasonExactly : Type 0
ReasonExactly =
    (ns rs : List ℕ) (q : PlanQuestion) (list : List ℕ) (a : PlanNumbers) (xs : List ℕ)
    → Plans ns rs q list a xs → WhichReason ns rs q list a

-- the second network is no harder: each road of the first has a road with the same ends and no higher consumption in it
pub record NoHigher (r r' : Road) : Type 0 where
  pub same_tail : r.tail ≡ r'.tail
  pub same_head : r.head ≡ r'.head
  pub no_higher : le_z r'.consumption r.consumption ≡ true

abbrev pub NoHarder : List ℕ → List ℕ → Type 0
NoHarder rs rs' = (k : ℕ) → k < road_count rs → (j : ℕ) × (j < road_count rs') × NoHigher (road_of rs k) (road_of rs' j)

-- demand 3 of best arrivals. Two queries between the same junctions, neither refused except perhaps for no route; the
-- second has a network no harder, and neither battery nor start is lower: a route in the first means a route in the second,
-- arriving with no less. No limit from above is claimed here
abbrev pub BestNoLess : Type 0
BestNoLess =
    (ns rs ns' rs' : List ℕ) (q q' : PlanQuestion) (list list' : List ℕ) (a b : PlanNumbers) (xs ys : List ℕ)
    → Plans ns rs q list a xs → Plans ns' rs' q' list' b ys
    → q.source ≡ q'.source → q.target ≡ q'.target → NoHarder rs rs' → le_z q.battery q'.battery ≡ true
    → le_z q.start q'.start ≡ true → a.number ≡ 0 → (b.number ≡ 0) ⊎ NoRoute b.number
    → (b.number ≡ 0) × (a.arrival ≤ b.arrival)

-- source = target: the empty route, arrival = start, nothing drawn, recovered or spilled
pub record StaysPut (q : PlanQuestion) (list : List ℕ) (a : PlanNumbers) (xs : List ℕ) : Type 0 where
  pub no_roads : a.roads ≡ 0
  pub arrival_is : a.arrival ≡ draw q.start
  pub drawn_is : a.drawn ≡ 0
  pub recovered_is : a.recovered ≡ 0
  pub spilled_is : a.spilled ≡ 0
  pub list_is : xs ≡ list

abbrev pub SameJunction : Type 0
SameJunction =
    (ns rs : List ℕ) (q : PlanQuestion) (list : List ℕ) (a : PlanNumbers) (xs : List ℕ)
    → Plans ns rs q list a xs → q.source ≡ q.target → plan_fault ns rs q (length list) ≡ Ok tt → StaysPut q list a xs

-- a walk that returns to a junction never arrives with more than the walk without the loop: battery B, start b
abbrev pub LoopNoMore : Type 0
LoopNoMore =
    (ns rs : List ℕ) (B : Battery) (b v : ℕ) (to loop on : List ℕ) (w : Van)
    → Passing ns rs → Walk rs v loop v → drive_all (fresh B b) (roads_of rs (to ++ (loop ++ on))) ≡ Some w
    → (u : Van) × (drive_all (fresh B b) (roads_of rs (to ++ on)) ≡ Some u) × (w.charge ≤ u.charge)
