-- What a trip asks. No promise cites this file.
use Rattle.std.specs.Prelude.{List, ℕ, ◌+◌, ◌≤◌, ◌<◌, length}
use Rattle.battery.specs.declared.Battery.{Battery}
use Rattle.network.specs.Files.{junctions}
use Rattle.reading.specs.Reading.{forward}
use Rattle.search.specs.Searches.{SetsOut}
use Rattle.search.specs.declared.Trip.{Trip}

pub record FindAsks (B : Battery) (ns rs : List ℕ) (trip : Trip) (list : List ℕ) : Type 0 where
  pub sets_out : SetsOut (forward B) ns rs trip.source trip.label
  pub target_in : trip.target < junctions ns
  pub room : junctions ns ≤ length list + 1
