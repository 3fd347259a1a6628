use Rattle.reading.proofs.Net.{tail_at}
use Rattle.search.proofs.Map.entered.Goals as goal

pub returns : goal.returns
returns c = tail_at _ _ _ _ c.road_at.ensures c.entered.ensures
