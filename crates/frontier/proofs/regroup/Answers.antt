use Rattle.std.proofs.Common.{arith}
use Rattle.frontier.proofs.Changes.{regrouped}
use Rattle.frontier.proofs.regroup.Goals as goal

pub returns-clause-regrouped : goal.returns-clause-regrouped
returns-clause-regrouped c =
    regrouped c.args.queue.now c.args.a c.args.x (omega arith) c.best8-others.ensures.run c.larger.ensures
