-- The route that was found: it stands at the front of the list, it is driven without a fault, and so best route keeps its promise.
-- Assumes nothing.
use Rattle.std.specs.Prelude.{Ok, Result, Some}
use mathlib.Core.Path.{◌≡◌, sym, ◌∙◌}
use mathlib.Core.List.{List}
use Prim.Native.Nat.{ℕ}
use native.Mathlib.Omega.{arith}
use lib.ListN.{length, take, drop}
use lib.Seq.{take-append_seam}
use Rattle.numbers.specs.Signed.{draw}
use Rattle.battery.specs.Drive.{drive_all}
use Rattle.journeys.specs.Walks.{roads_of}
use Rattle.routes.proofs.Exactly.{driven_exactly}
use Rattle.routes.specs.Steps.{DriveAsks}
use Rattle.promises.specs.Given.{plan_numbers, routed}
use Rattle.promises.specs.Order.{battery_of, plan_van, plan_fault}
use Rattle.planner.specs.Planning.{FoundAsks, FoundKeeps}
use Rattle.promises.specs.Promises.{Plans}
use Rattle.promises.specs.declared.PlanQuestion.{PlanQuestion}
use Rattle.promises.proofs.Passed.{plan_passed}
use Rattle.planner.proofs.Entries.{sets_out}
use Rattle.planner.proofs.Searching.{BestWalk}
use Rattle.refusals.specs.declared.Refusal.{Refusal}
use Rattle.promises.specs.declared.Route.{Route}

module _ (ns rs : List ℕ) (q : PlanQuestion) (list : List ℕ) (passed : plan_fault ns rs q (length list) ≡ Ok tt)
    (count : ℕ) (list' : List ℕ) (w : BestWalk ns rs q list count list') where
  -- the first entries are the route
  front : take count list' ≡ w.by
  front = (λ i. take (w.count_is i) (w.list_is i)) ∙ take-append_seam w.by (drop (length w.by) list)

  asks : DriveAsks rs w.by (plan_van q)
  asks =
      let c = plan_passed ns rs q (length list) passed in
      sets_out ns rs w.by q.battery q.start
      (record { files = c.files; battery_ok = c.battery_ok; entries_le = omega (arith, w.few, c.files.few) })
      c.start_ok

  pub found_asks : FoundAsks rs (take count list') q.source (plan_van q)
  found_asks =
      rw front
      (record {
        asks = asks;
        faultless =
            (driven_exactly (battery_of q.battery) (draw q.start) rs q.source w.by).only
            (record { target = q.target; walk = w.arrives.walk }) (record { van = w.van; drives = w.arrives.drives });
      })

  pub plans_route : (r : Result Route Refusal) → FoundKeeps rs (take count list') (plan_van q) r → Plans ns rs q list (plan_numbers r) list'
  plans_route r k =
      let d : drive_all (plan_van q) (roads_of rs w.by) ≡ Some k.end = rw front at k.drives in
      let v : w.van ≡ k.end = cc w.arrives.drives in
      let p : r ≡ routed (length w.by) w.van = k.is ∙ (λ i. routed (length (front i)) (sym v i)) in
      rw (p, w.list_is) (Plans.route w.by w.van passed w.arrives w.once w.most)
