use Rattle.std.proofs.Common.{◌+◌, refl, arith}
use Rattle.lists.specs.Lists.{entry}
use Rattle.frontier.proofs.Level.{run_one, run_join}
use Rattle.frontier.proofs.best8.Goals as goal

pub loop-i-init : goal.loop-i-init
loop-i-init c = record {
  run = run_one (entry c.args.queue.now) c.args.a (c.args.a + 1) refl;
  small = omega (arith, c.requires.1.below c.args.a);
}

pub loop-i-preserved : goal.loop-i-preserved
loop-i-preserved c = record {
  run = run_join c.loop-i.invariant.run (run_one _ c.loop-i.i (c.loop-i.i + 1) refl) c.larger-best.ensures refl;
  small = omega (arith, c.requires.1.below c.loop-i.i, c.loop-i.invariant.small, c.larger-best.ensures);
}
