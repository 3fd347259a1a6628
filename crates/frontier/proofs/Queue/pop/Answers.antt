use Rattle.frontier.proofs.Popping.{pops_none, pops_some}
use Rattle.frontier.proofs.Queue.pop.Goals as goal

pub returns-then-self-eq0 : goal.returns-then-self-eq0
returns-then-self-eq0 c = pops_none c.requires c.if-self-eq0.true

pub returns : goal.returns
returns c = pops_some c.requires c.if-self-eq0.false c.remove.ensures
