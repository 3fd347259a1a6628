use Rattle.frontier.proofs.Changes.{raised}
use Rattle.frontier.proofs.raise.Goals as goal

pub returns : goal.returns
returns c =
    raised c.requires c.lift.ensures.lifted c.lift-2.ensures.lifted c.lift-3.ensures.lifted c.lift-4.ensures.lifted
    c.lift-4.ensures.small c.larger.ensures
