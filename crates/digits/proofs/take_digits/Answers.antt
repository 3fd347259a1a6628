-- A digit more, and the number so far is below 10^10.
use Rattle.std.proofs.Common.{◌≡◌, get_or, take, refl, arith}
use Rattle.std.proofs.lemmas.List.{get_or-take}
use lib.ListN.{length-take}
use Rattle.digits.proofs.Taking.{run_none, run_small, run_more}
use Rattle.digits.proofs.take_digits.Goals as goal

pub loop-i-init : goal.loop-i-init
loop-i-init c = run_none c.args.line.now

pub overflow_mul-number : goal.overflow_mul-number
overflow_mul-number c = let h = run_small c.loop-i.invariant in omega arith

pub overflow_add-number : goal.overflow_add-number
overflow_add-number c = let h = run_small c.loop-i.invariant in omega arith

pub loop-i-preserved : goal.loop-i-preserved
loop-i-preserved c =
    let l = length-take c.min-most.result c.args.line.now in
    let b : get_or (take c.min-most.result c.args.line.now) c.loop-i.i 0 ≡ get_or c.args.line.now c.loop-i.i 0 =
    get_or-take c.min-most.result c.args.line.now c.loop-i.i 0 (omega arith) in
    run_more c.loop-i.invariant refl (omega arith) (omega arith) (omega arith) (omega arith) (omega arith)
