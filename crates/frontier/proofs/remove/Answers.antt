use Rattle.frontier.proofs.Changes.{removed}
use Rattle.frontier.proofs.remove.Goals as goal

pub returns : goal.returns
returns c =
    removed c.requires c.regroup-one.ensures.regrouped c.regroup-two.ensures.regrouped c.regroup-three.ensures.regrouped
    c.regroup.ensures.regrouped c.regroup.ensures.small.0
