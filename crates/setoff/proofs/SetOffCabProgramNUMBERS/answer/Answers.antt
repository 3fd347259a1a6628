-- What is written for a refusal and for the charges. The list has an entry for each junction.
use Rattle.std.proofs.Common.{◌≤◌, length, refl, sym, arith}
use lib.Seq.{length-take-le}
use Rattle.network.specs.Files.{junctions}
use Rattle.setoff.proofs.Answered.{numbers_fit, writes_charges, writes_refusal}
use Rattle.setoff.proofs.SetOffCabProgramNUMBERS.answer.Goals as goal

pub returns-in_default : goal.returns-in_default
returns-in_default c =
    let allowed =
    writes_refusal c.set_off-answer.result c.set_off-answer.ensures c.asked.ensures refl c.from-given.ensures c.in_default.is in
    record { text = _; allowed = allowed; written = c.write_refusal.ensures }

pub slice_bounds-list-end : goal.slice_bounds-list-end
slice_bounds-list-end c =
    omega (arith, numbers_fit c.set_off-answer.result c.set_off-answer.ensures c.in-Ok.is, c.set_off-answer.auto.list)

pub slice_bounds-write_charges-end : goal.slice_bounds-write_charges-end
slice_bounds-write_charges-end c =
    let list = c.set_off-answer.new.list in
    let fits : junctions c.args.nodes.now ≤ length list =
    omega (arith, numbers_fit c.set_off-answer.result c.set_off-answer.ensures c.in-Ok.is, c.set_off-answer.auto.list) in
    sym (length-take-le (junctions c.args.nodes.now) list fits)

pub returns : goal.returns
returns c =
    let allowed =
    writes_charges c.set_off-answer.result c.set_off-answer.ensures c.asked.ensures refl c.from-given.ensures c.in-Ok.is in
    record { text = _; allowed = allowed; written = c.write_charges.ensures }
