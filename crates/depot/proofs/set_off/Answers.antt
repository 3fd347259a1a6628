use Rattle.std.proofs.Common.{◌≡◌, sym, ◌∙◌, subst, rules, Err}
use Rattle.promises.specs.Given.{check_numbers}
use Rattle.battery.specs.declared.Battery.{Battery}
use Rattle.promises.proofs.Bits.{battery_back, battery_bits}
use Rattle.promises.proofs.Passed.{battery_whole, set_off_passed}
use Rattle.promises.specs.Promises.{Numbered, SetsOff}
use Rattle.depot.specs.Filling.{FillAsks}
use Rattle.depot.proofs.set_off.Goals as goal

pub returns-in_err-check_set_off : goal.returns-in_err-check_set_off
returns-in_err-check_set_off c =
    let a = c.args in
    let e : c.from_residual.result ≡ Err c.in_err-check_set_off.field-0.0 = search rules in
    subst (λ r. SetsOff a.nodes.now a.roads.now a.question a.list.now (check_numbers r) a.list.now) (sym e)
    (SetsOff.refused _ (sym c.in_err-check_set_off.ensures))

pub battery_of-battery-requires : goal.battery_of-battery-requires
battery_of-battery-requires c =
    battery_bits c.args.question.battery (set_off_passed _ _ _ _ (sym c.in_ok-check_set_off.ensures)).battery_ok

pub fill-requires : goal.fill-requires
fill-requires c =
    let a = c.args in
    let p = set_off_passed _ _ _ _ (sym c.in_ok-check_set_off.ensures) in
    let e = c.battery_of-battery.ensures ∙ battery_back a.question.battery p.battery_ok in
    subst (λ (B : Battery). FillAsks a.nodes.now a.roads.now B a.question.depot a.list.now) (sym e)
    (record {
      files = p.files;
      battery_le = (battery_whole a.question.battery p.battery_ok).draw_le;
      depot_in = p.depot_in;
      room = p.room;
    })

pub returns : goal.returns
returns c =
    let a = c.args in
    let passed = sym c.in_ok-check_set_off.ensures in
    let p = set_off_passed _ _ _ _ passed in
    let e = c.battery_of-battery.ensures ∙ battery_back a.question.battery p.battery_ok in
    SetsOff.known passed
    (subst (λ (B : Battery). Numbered a.nodes.now a.roads.now B a.question.depot a.list.now c.fill.new.list) e c.fill.ensures)
