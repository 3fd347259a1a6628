-- What whole searches ask and keep. No promise cites this file.
use Rattle.std.specs.Prelude.{◌≡◌, List, ◌⊎◌, ℕ, ◌≤◌, ◌<◌}
use Rattle.lists.specs.Lists.{entry, AllZero}
use Rattle.frontier.specs.Queues.{Empty}
use Rattle.network.specs.Files.{junctions, road_count}
use Rattle.walks.specs.Label.{Net, Best}
use Rattle.reading.specs.Asks.{Readable}
use Rattle.reading.specs.Reading.{most_label, net}
use Rattle.reading.specs.declared.Reading.{Reading}
use Rattle.search.specs.Chains.{Unchained, Chained}
use Rattle.search.specs.Trails.{Route}
use Rattle.search.specs.declared.Lists.{Lists}
use Rattle.search.specs.declared.Trip.{Trip}

-- where a search sets out, and with what label
pub record SetsOut (rd : Reading) (ns rs : List ℕ) (source label : ℕ) : Type 0 where
  pub readable : Readable rd.battery ns rs
  pub source_in : source < junctions ns
  pub some : 0 < label
  pub label_le : label ≤ most_label rd.battery

-- lists in which nothing of a search stands: no road on a chain, no label, no key
pub record Fresh (l : Lists) : Type 0 where
  pub no_road : Unchained l.chains
  pub no_label : AllZero l.labels
  pub no_key : Empty l.queue

-- no road is on a chain, and there is no label; ways and queue stay
pub record Forgotten (l l' : Lists) : Type 0 where
  pub no_road : Unchained l'.chains
  pub no_label : AllZero l'.labels
  pub ways : l'.ways ≡ l.ways
  pub queue : l'.queue ≡ l.queue

pub record ExploreAsks (rd : Reading) (ns rs : List ℕ) (trip : Trip) (l : Lists) : Type 0 where
  pub sets_out : SetsOut rd ns rs trip.source trip.label
  pub chained : Chained (net rd rs).roads (road_count rs) l.chains
  pub no_label : AllZero l.labels
  pub no_key : Empty l.queue

-- the target's label is the best; where it has none the search was not stopped, every label is the best and nothing waits
pub record Explored (N : Net) (n : ℕ) (trip : Trip) (l : Lists) : Type 0 where
  pub best : (v : ℕ) → (v ≡ trip.target) ⊎ (entry l.labels trip.target ≡ 0)
      → Best N trip.source trip.label v (entry l.labels v)
  pub route : 0 < entry l.labels trip.target
      → Route N (entry l.ways) n trip.source trip.label trip.target (entry l.labels trip.target)
  pub emptied : entry l.labels trip.target ≡ 0 → Empty l.queue

-- from s with the label l: every junction has its best label
pub record Labels (N : Net) (s l : ℕ) (labels : List ℕ) : Type 0 where
  pub best : (v : ℕ) → Best N s l v (entry labels v)
