-- The route that a search writes, or the reason why there is none. Assumes nothing.
use mathlib.Core.Path.{◌≡◌, refl, sym, subst}
use Rattle.std.proofs.Common.{Ok, Err}
use mathlib.Core.List.{List, ◌++◌}
use mathlib.Core.Logic.{inl}
use Prim.Native.Nat.{ℕ, ◌<◌}
use native.Mathlib.Omega.{arith}
use lib.ListN.{length, drop}
use Rattle.battery.specs.declared.Battery.{Battery}
use Rattle.lists.specs.Lists.{entry}
use Rattle.network.specs.Files.{junctions}
use Rattle.journeys.specs.Reasons.{Reason}
use Rattle.refusals.specs.declared.Refusal.{Refusal}
use Rattle.reading.specs.Reading.{forward, net}
use Rattle.search.specs.Sizes.{most_ways}
use Rattle.search.specs.Searches.{Explored}
use Rattle.search.specs.Trails.{Route}
use Rattle.search.specs.declared.Lists.{Lists}
use Rattle.search.specs.declared.Trip.{Trip}
use Rattle.search.proofs.Sizes.{junctions_fit, ways_fit}
use Rattle.trips.specs.Found.{BestOf, Finds, nowhere, route}
use Rattle.trips.specs.Asks.{FindAsks}
use Rattle.trips.specs.Ways.{TrailOf, Trailed, WriteAsks, Counted, Written}
use Rattle.trips.proofs.Trailing.{trail_wider}

module _ {B : Battery} {ns rs : List ℕ} {trip : Trip} {list : List ℕ} (a : FindAsks B ns rs trip list)
    {l : Lists} (e : Explored (net (forward B) rs) (junctions ns) trip l) where
  best : BestOf B rs trip (entry l.labels trip.target)
  best = e.best trip.target (inl refl)

  -- nothing waits, so that the lists serve for another search
  module _ (none : entry l.labels trip.target ≡ 0) where
    pub finds_nowhere : {r : Refusal} → Reason B rs trip.source trip.target r → Finds B ns rs trip list (Err r) list
    finds_nowhere reason = nowhere (subst (BestOf B rs trip) none best) reason

  module _ (long : length l.ways ≡ most_ways) (some : 0 < entry l.labels trip.target) where
    found : Route (net (forward B) rs) (entry l.ways) (junctions ns) trip.source trip.label trip.target (entry l.labels trip.target)
    found = e.route some

    trail : TrailOf (net (forward B) rs).roads l.ways trip.source trip.target found.by
    trail = trail_wider (omega (arith, a.sets_out.readable.few, junctions_fit, ways_fit)) found.trail

    pub trailed : Trailed (net (forward B) rs).roads l.ways trip.source trip.target
    trailed = record { by = found.by; trail = trail; few = omega (arith, found.few, a.sets_out.readable.few, junctions_fit, ways_fit) }

    pub write_asks : {count : ℕ} → Counted (net (forward B) rs).roads l.ways trip.source trip.target count
        → WriteAsks (net (forward B) rs).roads l.ways trip.source trip.target count list
    unfolding trailed
    write_asks {count} c =
        let p : count ≡ length found.by = c found.by trail in
        record { trailed = trailed; count_is = p; fits = omega (arith, found.few, a.room) }

    finds : Finds B ns rs trip list (Ok (length found.by))
        (found.by ++ drop (length found.by) list)
    finds =
        route found.by found.few found.walk found.once (omega (arith, found.brings))
        (subst (BestOf B rs trip) (sym found.brings) best)

    pub finds_route : {count : ℕ} {list' : List ℕ} → Counted (net (forward B) rs).roads l.ways trip.source trip.target count
        → Written (net (forward B) rs).roads l.ways trip.source trip.target list list'
        → Finds B ns rs trip list (Ok count) list'
    finds_route c w = rw (c found.by trail, w found.by trail) finds
