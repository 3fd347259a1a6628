use Rattle.std.proofs.Common.{◌≡◌, sym, subst, rules, Err}
use Rattle.promises.specs.Given.{plan_numbers}
use Rattle.promises.specs.Promises.{Plans}
use Rattle.promises.proofs.Bits.{battery_bits, start_bits}
use Rattle.promises.proofs.Passed.{plan_passed}
use Rattle.planner.proofs.best_route.Goals as goal

pub returns-in_err-check_plan : goal.returns-in_err-check_plan
returns-in_err-check_plan c =
    let a = c.args in
    let e : c.from_residual.result ≡ Err c.in_err-check_plan.field-0.0 = search rules in
    subst (λ r. Plans a.nodes.now a.roads.now a.question a.list.now (plan_numbers r) a.list.now) (sym e)
    (Plans.refused _ (sym c.in_err-check_plan.ensures))

pub van_of-van-requires : goal.van_of-van-requires
van_of-van-requires c =
    let q = c.args.question in
    let d = plan_passed _ _ _ _ (sym c.in_ok-check_plan.ensures) in
    (battery_bits q.battery d.battery_ok, start_bits q.battery q.start d.battery_ok d.start_ok)
