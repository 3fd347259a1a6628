-- A search on its way: one turn, and the two ends. Assumes nothing.
use mathlib.Core.Path.{◌≡◌, refl, sym, subst}
use mathlib.Core.List.{List}
use Rattle.std.proofs.Common.{None}
use Prim.Native.Nat.{ℕ, suc, ◌<◌}
use native.Mathlib.Omega.{arith}
use Rattle.lists.specs.Lists.{entry}
use Rattle.frontier.specs.Queues.{Popped, Pops}
use Rattle.frontier.specs.declared.Queue.{Queue}
use Rattle.network.specs.Files.{junctions, road_count}
use Rattle.reading.specs.Asks.{Readable}
use Rattle.reading.specs.Reading.{psi, net}
use Rattle.reading.specs.declared.Reading.{Reading}
use Rattle.reading.proofs.Laws.{laws}
use Rattle.reading.proofs.Net.{count_is}
use Rattle.search.specs.Chains.{Chained}
use Rattle.search.specs.State.{unsettled, Idle, Next}
use Rattle.search.specs.Searches.{Explored}
use Rattle.search.specs.Steps.{waiting, BusyIn, Underway, SpreadKeeps}
use Rattle.search.specs.declared.Lists.{Lists}
use Rattle.search.specs.declared.Trip.{Trip}
use Rattle.search.proofs.Finishing.{explored_target, explored_all}
use Rattle.search.proofs.Busy.{busy_idle}
use Rattle.search.proofs.Packing.{put_waiting}
use Rattle.search.proofs.Settling.{settle}

pub record ExploreLoop (rd : Reading) (ns rs : List ℕ) (trip : Trip) (l : Lists) : Type 0 where
  pub chained : Chained (net rd rs).roads (road_count rs) l.chains
  pub underway : Underway rd l
  pub turns : ℕ
  pub idle : Idle (net rd rs) (psi rd ns) (junctions ns) trip.source trip.label turns (entry l.labels) (entry l.ways) (waiting l.queue)

-- what is left of the search
abbrev pub left_over : List ℕ → Lists → ℕ
left_over ns l = unsettled (entry l.labels) (waiting l.queue) (junctions ns)

module _ {rd : Reading} {ns rs : List ℕ} {trip : Trip} (readable : Readable rd.battery ns rs) {l : Lists}
    (i : ExploreLoop rd ns rs trip l) where
  -- ---- one turn: u is taken out of the queue

  module _ {u : ℕ} {q : Queue} (p : Popped l.queue u q) where
    next : Next (waiting l.queue) u
    next = record { waiting = i.underway.real u p.waiting; most = λ v. omega (arith, p.most v) }

    labelled : 0 < entry l.labels u
    labelled = i.idle.state.waits u next.waiting

    -- the lists then
    taken_out : Lists
    taken_out = record { chains = l.chains; labels = l.labels; ways = l.ways; queue = q }

    settled : BusyIn rd ns rs trip.source trip.label (suc i.turns) u (net rd rs).roads.count taken_out
    unfolding taken_out
    settled =
        settle (net rd rs) (psi rd ns) (junctions ns) trip.source trip.label i.turns u
        (entry l.labels) (entry l.ways) (waiting l.queue) (waiting q) i.idle next (put_waiting l.queue q p.now.put refl)

    -- the target is settled
    pub target_settled : u ≡ trip.target
        → Explored (net rd rs) (junctions ns) trip (record { chains = l.chains; labels = l.labels; ways = l.ways; queue = q })
    unfolding taken_out
    target_settled e = explored_target _ (laws rd ns rs readable) (rw e at settled)

    module _ {l₂ : Lists} (k : SpreadKeeps rd ns rs u (record { chains = l.chains; labels = l.labels; ways = l.ways; queue = q }) l₂) where
      spread_busy : BusyIn rd ns rs trip.source trip.label (suc i.turns) u 0 l₂
      unfolding taken_out
      spread_busy =
          (k.spreads trip.source trip.label (suc i.turns)
          (subst (λ (m : ℕ). BusyIn rd ns rs trip.source trip.label (suc i.turns) u m taken_out) (count_is rd rs) settled)).0

      pub explore_next : ExploreLoop rd ns rs trip l₂
      explore_next =
          record {
            chained = subst (Chained (net rd rs).roads (road_count rs)) (sym k.chains) i.chained;
            underway = k.underway;
            turns = suc i.turns;
            idle = busy_idle spread_busy;
          }

      pub explore_less : left_over ns l₂ < left_over ns l
      explore_less = omega (arith, i.idle.state.counted, spread_busy.state.counted)

  -- ---- none waits

  pub none_waits : {q : Queue} → Pops l.queue None q
      → Explored (net rd rs) (junctions ns) trip (record { chains = l.chains; labels = l.labels; ways = l.ways; queue = q })
  none_waits (e, s) = rw s (explored_all l (laws rd ns rs readable) i.idle e)
