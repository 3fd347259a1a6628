-- What is written for a refusal and for a route. The route is no longer than the list.
use Rattle.std.proofs.Common.{refl, sym}
use lib.Seq.{length-take-le}
use Rattle.plan.proofs.Answered.{route_fits, writes_route, writes_refusal}
use Rattle.plan.proofs.PlanCabProgramNUMBERS.answer.Goals as goal

pub returns-in_default : goal.returns-in_default
returns-in_default c =
    let allowed =
    writes_refusal c.best_route-answer.result c.best_route-answer.ensures c.asked.ensures refl c.from-given.ensures
    c.in_default.is in
    record { text = _; allowed = allowed; written = c.write_refusal.ensures }

pub slice_bounds-write_route-end : goal.slice_bounds-write_route-end
slice_bounds-write_route-end c =
    let fits = route_fits c.best_route-answer.result c.best_route-answer.ensures c.in-Ok.is c.best_route-answer.auto.list in
    sym (length-take-le c.in-Ok.route.roads c.best_route-answer.new.list fits)

pub returns : goal.returns
returns c =
    let allowed =
    writes_route c.best_route-answer.result c.best_route-answer.ensures c.asked.ensures refl c.from-given.ensures c.in-Ok.is in
    record { text = _; allowed = allowed; written = c.write_route.ensures }
