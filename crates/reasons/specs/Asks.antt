-- What the search back asks; of the lists, which are lent from one search to the next, nothing. No promise cites this file.
use Rattle.std.specs.Prelude.{List, ℕ, ◌<◌}
use Rattle.battery.specs.declared.Battery.{Battery}
use Rattle.network.specs.Files.{junctions}
use Rattle.reading.specs.Asks.{Readable}
use Rattle.reading.specs.declared.Reading.{Reading}
use Rattle.search.specs.Searches.{SetsOut}
use Rattle.search.specs.declared.Trip.{Trip}

pub record ReasonAsks (B : Battery) (ns rs : List ℕ) (trip : Trip) : Type 0 where
  pub readable : Readable B ns rs
  pub source_in : trip.source < junctions ns
  pub target_in : trip.target < junctions ns

pub record AgainAsks (rd : Reading) (ns rs : List ℕ) (trip : Trip) : Type 0 where
  pub sets_out : SetsOut rd ns rs trip.source trip.label
  pub target_in : trip.target < junctions ns
