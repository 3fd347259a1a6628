-- The beginning of a search: the source alone has a label, and waits. Assumes nothing.
use mathlib.Core.Path.{◌≡◌, refl, ap}
use mathlib.Core.List.{List}
use Prim.Native.Nat.{ℕ, ◌+◌, ◌/◌, ◌≤◌, ◌<◌, max}
use native.Mathlib.Decide.{ℕ_discrete}
use native.Mathlib.Omega.{arith}
use lib.ListN.{length, set}
use Rattle.lists.proofs.Stores.{set_put}
use Rattle.lists.specs.Lists.{entry, Put}
use Rattle.frontier.specs.Frontier.{places, key_at}
use Rattle.frontier.specs.Queues.{Now}
use Rattle.frontier.specs.declared.Queue.{Queue}
use Rattle.network.specs.Files.{junctions}
use Rattle.reading.specs.Reading.{most_label, psi, net}
use Rattle.reading.specs.declared.Reading.{Reading}
use Rattle.search.specs.Searches.{ExploreAsks}
use Rattle.search.specs.Sizes.{most_places}
use Rattle.search.specs.Steps.{waiting, packed}
use Rattle.search.specs.declared.Lists.{Lists}
use Rattle.search.specs.declared.Trip.{Trip}
use Rattle.search.proofs.Sizes.{junctions_fit, keys_fit}
use Rattle.search.proofs.Exploring.{ExploreLoop}
use Rattle.search.proofs.Packing.{no_key, put_waiting}
use Rattle.search.proofs.Beginning.{begin}

module _ {rd : Reading} {ns rs : List ℕ} {trip : Trip} {l : Lists} (a : ExploreAsks rd ns rs trip l) where
  -- the source has a place
  placed : trip.source < most_places
  placed = omega (arith, a.sets_out.source_in, a.sets_out.readable.few, junctions_fit)

  module _ {key : ℕ} (key_is : key ≡ packed (trip.label + psi rd ns trip.source) trip.source) where
    module _ (long : length l.labels ≡ most_places) {q : Queue}
        (n : Now l.queue trip.source (max (key_at l.queue.entries trip.source) key) q) where
      labels : List ℕ
      labels = set l.labels trip.source trip.label

      put_label : Put (entry l.labels) (entry labels) trip.source trip.label
      unfolding labels
      put_label = set_put l.labels (omega (arith, placed)) refl

      put_key : Put (waiting l.queue) (waiting q) trip.source (trip.label + psi rd ns trip.source)
      put_key = put_waiting l.queue q n.put (omega (arith, no_key a.no_key trip.source, key_is, placed, keys_fit))

      bounded : (v : ℕ) → Dec (v ≡ trip.source) → entry labels v ≤ most_label rd.battery
      bounded v (yes e) = omega (arith, ap (entry labels) e, put_label.here, a.sets_out.label_le)
      bounded v (no e) = omega (arith, put_label.rest v e, a.no_label v)

      real : (v : ℕ) → 0 < key_at q.entries v → Dec (v ≡ trip.source) → 0 < waiting q v
      real v h (yes e) = omega (arith, ap (waiting q) e, put_key.here, a.sets_out.some)
      real v h (no e) = absurd (omega (arith, n.put.rest v e, no_key a.no_key v))

      pub explore_start : ExploreLoop rd ns rs trip
          (record { chains = l.chains; labels = set l.labels trip.source trip.label; ways = l.ways; queue = q })
      unfolding labels
      explore_start =
          record {
            chained = a.chained;
            underway =
                record {
                  queued = record { frontier = n.frontier; best = n.best };
                  bounded = λ v. bounded v (ℕ_discrete v trip.source);
                  real = λ v h. real v h (ℕ_discrete v trip.source);
                };
            turns = 0;
            idle =
                begin (net rd rs) (psi rd ns) (junctions ns) trip.source trip.label (entry l.labels) (entry l.ways) (waiting l.queue)
                (entry labels) (waiting q) a.no_label (λ v. ap (λ (y : ℕ). y / places) (no_key a.no_key v))
                put_label put_key a.sets_out.some a.sets_out.source_in;
          }
