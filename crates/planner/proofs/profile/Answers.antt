use Rattle.std.proofs.Common.{length, sym, ◌∙◌, subst, ◌≡◌, rules, Err}
use Rattle.promises.specs.Given.{profile_numbers}
use Rattle.promises.specs.Promises.{Profiles}
use Rattle.battery.specs.declared.Battery.{Battery}
use Rattle.routes.specs.Steps.{ProfileAsks, ProfileKeeps}
use Rattle.promises.proofs.Bits.{battery_back}
use Rattle.promises.proofs.Passed.{profile_passed}
use Rattle.planner.proofs.Entries.{profile_refused, profile_asks, profile_kept}
use Rattle.planner.proofs.profile.Goals as goal

pub returns-in_err-check_profile : goal.returns-in_err-check_profile
returns-in_err-check_profile c =
    let a = c.args in
    let e : c.from_residual.result ≡ Err c.in_err-check_profile.field-0.0 = search rules in
    subst (λ r. Profiles a.nodes.now a.roads.now a.question a.route.now (profile_numbers r)) (sym e)
    (profile_refused a.nodes.now a.roads.now a.question a.route.now (sym c.in_err-check_profile.ensures))

pub profile_route-requires : goal.profile_route-requires
profile_route-requires c =
    let a = c.args in
    let q = a.question in
    let passed = sym c.in_ok-check_profile.ensures in
    let d = profile_passed a.nodes.now a.roads.now q (length a.route.now) passed in
    let e = c.battery_of-battery.ensures ∙ battery_back q.battery d.battery_ok in
    subst (ProfileAsks a.roads.now a.route.now) (sym e) (profile_asks a.nodes.now a.roads.now q a.route.now passed)

pub returns : goal.returns
returns c =
    let a = c.args in
    let q = a.question in
    let passed = sym c.in_ok-check_profile.ensures in
    let d = profile_passed a.nodes.now a.roads.now q (length a.route.now) passed in
    let e = c.battery_of-battery.ensures ∙ battery_back q.battery d.battery_ok in
    let k = subst (λ (B : Battery). ProfileKeeps a.roads.now a.route.now q.source B c.profile_route.result) e c.profile_route.ensures in
    profile_kept a.nodes.now a.roads.now q a.route.now passed c.profile_route.result k
