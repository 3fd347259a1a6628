-- What `find` promises: a route that brings the best label of all walks, written at the front of the list, or why no walk
-- brings any. No entry's promise cites this file.
use Rattle.std.specs.Prelude.{List, ◌++◌, ℕ, ◌<◌, length, drop, Result, Ok, Err}
use Rattle.battery.specs.declared.Battery.{Battery}
use Rattle.network.specs.Files.{junctions}
use Rattle.journeys.specs.Reasons.{Reason}
use Rattle.refusals.specs.declared.Refusal.{Refusal}
use Rattle.walks.specs.Label.{after, Best}
use Rattle.walks.specs.Walk.{Walk, Once}
use Rattle.reading.specs.Reading.{forward, net}
use Rattle.search.specs.declared.Trip.{Trip}

-- with the battery B: the best label of all walks of the trip is x
abbrev pub BestOf : Battery → List ℕ → Trip → ℕ → Type 0
BestOf B rs trip x = Best (net (forward B) rs) trip.source trip.label trip.target x

-- the route has fewer roads than there are junctions
pub data Finds (B : Battery) (ns rs : List ℕ) (trip : Trip) (list : List ℕ) : Result ℕ Refusal → List ℕ → Type 0 where
  nowhere : {r : Refusal} → BestOf B rs trip 0 → Reason B rs trip.source trip.target r
      → Finds B ns rs trip list (Err r) list
  route : (ks : List ℕ) → length ks < junctions ns → Walk (net (forward B) rs).roads trip.source ks trip.target
      → Once (net (forward B) rs).roads trip.source ks → 0 < after (net (forward B) rs) ks trip.label
      → BestOf B rs trip (after (net (forward B) rs) ks trip.label)
      → Finds B ns rs trip list (Ok (length ks)) (ks ++ drop (length ks) list)
