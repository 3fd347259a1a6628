-- What the search found is of the van that sets out.
use Rattle.std.proofs.Common.{◌≡◌, ℕ, List, Ok, Err, take, arith, sym, ap, subst, rules}
use Rattle.battery.specs.declared.Van.{Van}
use Rattle.trips.specs.Asks.{FindAsks}
use Rattle.promises.specs.Given.{plan_numbers}
use Rattle.promises.specs.Promises.{Plans}
use Rattle.promises.specs.Order.{plan_van}
use Rattle.promises.specs.declared.PlanQuestion.{PlanQuestion}
use Rattle.promises.proofs.Passed.{start_whole, plan_passed}
use Rattle.planner.specs.Planning.{FoundAsks, FoundKeeps}
use Rattle.planner.proofs.Listed.{found_asks, plans_route}
use Rattle.planner.proofs.Searching.{trip_for, FindsFor, find_asks, plans_none, BestWalk, best_walk}
use Rattle.planner.proofs.plan.Goals as goal

best : (ns rs : List ℕ) (q : PlanQuestion) (list : List ℕ) (n : ℕ) (list' : List ℕ) {v : Van} → v ≡ plan_van q
    → FindsFor ns rs q v list (Ok n) list' → BestWalk ns rs q list n list'
best ns rs q list n list' e f =
    best_walk ns rs q list n list' (subst (λ (u : Van). FindsFor ns rs q u list (Ok n) list') e f)

pub overflow_add-trip : goal.overflow_add-trip
overflow_add-trip c =
    let q = c.args.question in
    let d = plan_passed _ _ _ _ c.requires.passed in
    let w = start_whole q.battery q.start d.battery_ok d.start_ok in
    record { fits = omega (arith, ap (λ (v : Van). v.charge) c.requires.van_is, w.0.draw_le) }

pub find-requires : goal.find-requires
find-requires c =
    let a = c.args in
    subst (λ (v : Van). FindAsks v.battery a.nodes.now a.roads.now (trip_for a.question v) a.list.now)
    (sym c.requires.van_is) (find_asks _ _ _ _ (plan_passed _ _ _ _ c.requires.passed))

pub returns-in_err-count : goal.returns-in_err-count
returns-in_err-count c =
    let a = c.args in
    let r = c.in_err-count.field-0.0 in
    let e : c.from_residual.result ≡ Err r = search rules in
    subst (λ x. Plans a.nodes.now a.roads.now a.question a.list.now (plan_numbers x) c.find.new.list) (sym e)
    (plans_none a.nodes.now a.roads.now a.question a.list.now c.requires.passed r c.find.new.list
    (subst (λ (v : Van). FindsFor a.nodes.now a.roads.now a.question v a.list.now (Err r) c.find.new.list)
    c.requires.van_is c.in_err-count.ensures))

pub drive_found-requires : goal.drive_found-requires
drive_found-requires c =
    let a = c.args in
    let n = c.in_ok-count.count in
    let found = c.find.new.list in
    let b = best a.nodes.now a.roads.now a.question a.list.now n found c.requires.van_is c.in_ok-count.ensures in
    subst (FoundAsks a.roads.now (take n found) a.question.source) (sym c.requires.van_is)
    (found_asks a.nodes.now a.roads.now a.question a.list.now c.requires.passed n found b)

pub returns : goal.returns
returns c =
    let a = c.args in
    let n = c.in_ok-count.count in
    let found = c.find.new.list in
    let b = best a.nodes.now a.roads.now a.question a.list.now n found c.requires.van_is c.in_ok-count.ensures in
    plans_route a.nodes.now a.roads.now a.question a.list.now c.requires.passed n found b c.drive_found.result
    (subst (λ (v : Van). FoundKeeps a.roads.now (take n found) v c.drive_found.result) c.requires.van_is c.drive_found.ensures)
