use Rattle.reading.proofs.Net.{head_at}
use Rattle.search.proofs.Map.left.Goals as goal

pub returns : goal.returns
returns c = head_at _ _ _ _ c.road_at.ensures c.left.ensures
