-- What the private parts of best route ask for and give. No promise cites this file.
use Rattle.std.specs.Prelude.{◌≡◌, List, ℕ, length, Ok, Result, Some}
use Rattle.battery.specs.Drive.{drive_all}
use Rattle.battery.specs.declared.Van.{Van}
use Rattle.journeys.specs.Walks.{roads_of}
use Rattle.routes.specs.Places.{drive_faults}
use Rattle.routes.specs.Steps.{DriveAsks}
use Rattle.promises.specs.Order.{plan_van, plan_fault}
use Rattle.promises.specs.declared.PlanQuestion.{PlanQuestion}
use Rattle.promises.specs.Given.{routed}
use Rattle.refusals.specs.declared.Refusal.{Refusal}
use Rattle.promises.specs.declared.Route.{Route}

-- 1 to 9 have passed, and the van is the one that sets out
pub record PlanAsks (ns rs : List ℕ) (q : PlanQuestion) (v : Van) (list : List ℕ) : Type 0 where
  pub passed : plan_fault ns rs q (length list) ≡ Ok tt
  pub van_is : v ≡ plan_van q

-- a route that the van drives without a fault
pub record FoundAsks (rs route : List ℕ) (source : ℕ) (v : Van) : Type 0 where
  pub asks : DriveAsks rs route v
  pub faultless : drive_faults rs source route v ≡ Ok tt

-- its count of roads, and the van at its end
pub record FoundKeeps (rs route : List ℕ) (v : Van) (r : Result Route Refusal) : Type 0 where
  pub end : Van
  pub drives : drive_all v (roads_of rs route) ≡ Some end
  pub is : r ≡ routed (length route) end
