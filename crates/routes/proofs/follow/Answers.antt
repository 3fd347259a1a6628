use Rattle.std.proofs.Common.{◌≡◌, sym, ap, ◌∙◌, subst, rules, ◌+◌, Err}
use Rattle.routes.specs.Gauges.{Follows, passed}
use Rattle.routes.proofs.Following.{Underway, not_entered, not_passed, underway_on, followed}
use Rattle.routes.proofs.Places.{is_road}
use Rattle.routes.proofs.follow.Goals as goal

pub road_at-road-requires : goal.road_at-road-requires
road_at-road-requires g c = is_road _ _ _ _ (sym c.in_ok-enter.ensures)

pub loop-i-preserved : goal.loop-i-preserved
loop-i-preserved g c =
    let a = c.args in
    let l = c.loop-i in
    let m = g.G.Gauge in
    let p = ap (λ r. passed (m.fault l.i) (m.passes l.gauge r)) (sym c.road_at-road.ensures) ∙ sym c.in_ok-gauge.ensures in
    subst (λ r. Underway m.Fits m.along m.fault a.roads.now a.source a.route.now a.start r.head c.in_ok-gauge.gauge (l.i + 1)) (sym c.road_at-road.ensures)
    (underway_on g.met.G.Gauge.laws c.requires l.invariant c.loop-i-test.true (sym c.in_ok-enter.ensures) p)

pub returns-in_err-enter : goal.returns-in_err-enter
returns-in_err-enter g c =
    let a = c.args in
    let m = g.G.Gauge in
    let e : c.from_residual.result ≡ Err c.in_err-enter.field-0.0 = search rules in
    subst (Follows m.along m.fault a.roads.now a.source a.route.now a.start) (sym e)
    (not_entered g.met.G.Gauge.laws c.requires c.loop-i.invariant c.loop-i-test.true (sym c.in_err-enter.ensures))

pub returns-in_err-gauge : goal.returns-in_err-gauge
returns-in_err-gauge g c =
    let a = c.args in
    let l = c.loop-i in
    let m = g.G.Gauge in
    let p = ap (λ r. passed (m.fault l.i) (m.passes l.gauge r)) (sym c.road_at-road.ensures) ∙ sym c.in_err-gauge.ensures in
    let e : c.from_residual-in_err-gauge.result ≡ Err c.in_err-gauge.field-0.0 = search rules in
    subst (Follows m.along m.fault a.roads.now a.source a.route.now a.start) (sym e)
    (not_passed g.met.G.Gauge.laws c.requires l.invariant c.loop-i-test.true (sym c.in_ok-enter.ensures) p)

pub returns : goal.returns
returns g c = followed g.met.G.Gauge.laws c.requires c.loop-i.invariant c.loop-i-test.false
