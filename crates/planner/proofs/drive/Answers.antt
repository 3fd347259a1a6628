use Rattle.std.proofs.Common.{◌≡◌, length, sym, ◌∙◌, subst, rules, Err}
use Rattle.promises.specs.Given.{drive_numbers}
use Rattle.promises.specs.Promises.{Drives}
use Rattle.battery.specs.declared.Van.{Van}
use Rattle.routes.specs.Steps.{DriveAsks, DriveKeeps}
use Rattle.promises.specs.Order.{van_of}
use Rattle.promises.proofs.Bits.{van_back}
use Rattle.promises.proofs.Passed.{drive_passed}
use Rattle.planner.proofs.Entries.{drive_refused, drive_asks, drive_kept}
use Rattle.planner.proofs.drive.Goals as goal

pub returns-in_err-check_drive : goal.returns-in_err-check_drive
returns-in_err-check_drive c =
    let a = c.args in
    let e : c.from_residual.result ≡ Err c.in_err-check_drive.field-0.0 = search rules in
    subst (λ r. Drives a.nodes.now a.roads.now a.question a.route.now (drive_numbers r)) (sym e)
    (drive_refused a.nodes.now a.roads.now a.question a.route.now (sym c.in_err-check_drive.ensures))

pub drive_route-requires : goal.drive_route-requires
drive_route-requires c =
    let a = c.args in
    let q = a.question in
    let passed = sym c.in_ok-check_drive.ensures in
    let d = drive_passed a.nodes.now a.roads.now q (length a.route.now) passed in
    let van : c.van_of-van.result ≡ van_of q = c.van_of-van.ensures ∙ van_back q.battery q.start d.0.battery_ok d.1 in
    subst (DriveAsks a.roads.now a.route.now) (sym van) (drive_asks a.nodes.now a.roads.now q a.route.now passed)

pub returns : goal.returns
returns c =
    let a = c.args in
    let q = a.question in
    let passed = sym c.in_ok-check_drive.ensures in
    let d = drive_passed a.nodes.now a.roads.now q (length a.route.now) passed in
    let van : c.van_of-van.result ≡ van_of q = c.van_of-van.ensures ∙ van_back q.battery q.start d.0.battery_ok d.1 in
    let k = subst (λ (v : Van). DriveKeeps a.roads.now a.route.now q.source v c.drive_route.result) van c.drive_route.ensures in
    drive_kept a.nodes.now a.roads.now q a.route.now passed c.drive_route.result k
