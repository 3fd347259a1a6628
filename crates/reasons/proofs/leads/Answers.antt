use Rattle.std.proofs.Common.{sym}
use Rattle.reading.proofs.Net.{count_is}
use Rattle.reasons.proofs.Leading.{reach_asks}
use Rattle.reasons.proofs.leads.Goals as goal

pub reach-requires : goal.reach-requires
reach-requires c =
    reach_asks c.requires (sym (count_is c.args.map.reading c.args.map.roads.now)) c.chain.ensures c.forget.ensures.no_label
