use Rattle.search.proofs.Seeking.{chain_asks}
use Rattle.search.proofs.Lists.seek.Goals as goal

pub chain-requires : goal.chain-requires
chain-requires c = chain_asks c.args.map.reading c.requires.sets_out.readable c.requires.fresh.no_road
