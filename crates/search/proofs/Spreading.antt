-- The roads of the junction settled last, one after another along its chain. Assumes nothing.
use mathlib.Core.Path.{◌≡◌, refl, ap, ◌∙◌, subst}
use mathlib.Core.List.{List}
use Rattle.std.proofs.Common.{Option, Some, None}
use Prim.Native.Nat.{ℕ, suc, ◌+◌, ◌/◌, ◌≤◌, ◌<◌, max}
use native.Mathlib.Decide.{dec_lt}
use native.Mathlib.Omega.{arith}
use Rattle.lists.specs.Lists.{entry}
use Rattle.frontier.specs.Frontier.{places, key_at}
use Rattle.network.specs.Files.{road_count}
use Rattle.walks.specs.Label.{Net, Laws}
use Rattle.reading.specs.Reading.{net}
use Rattle.reading.specs.declared.Reading.{Reading}
use Rattle.reading.proofs.Laws.{laws}
use Rattle.reading.proofs.Net.{heads_in, count_is}
use Rattle.search.specs.Chains.{linked, previous_of, Link}
use Rattle.search.specs.State.{Busy}
use Rattle.search.specs.Steps.{waiting, packed, Underway, passed, taken, Relaxed, RelaxKeeps, SpreadAsks, Spreads, SpreadKeeps}
use Rattle.search.specs.declared.Lists.{Lists}
use Rattle.search.proofs.Links.{entry_of, entry_linked}
use Rattle.search.proofs.Sizes.{junctions_fit, keys_fit}
use Rattle.search.proofs.Packing.{put_waiting}
use Rattle.search.proofs.Better.{Betters, label_u}
use Rattle.search.proofs.Busy.{busy_same, busy_pass, busy_skip}
use Rattle.search.proofs.Relaxing.{busy_better}

-- ---- one road

module _ {N : Net} {psi : ℕ → ℕ} {n s l turns u k : ℕ} (laws : Laws N psi) (road : k < N.roads.count) (here : N.roads.tail k ≡ u)
    (within : N.roads.head k < n) (few : n ≤ places) {label : ℕ} (a b : Lists)
    (busy : Busy N psi n s l turns u (suc k) (entry a.labels) (entry a.ways) (waiting a.queue)) (at_u : entry a.labels u ≡ label) where
  brings : N.step k (entry a.labels u) ≡ N.step k label
  brings = ap (N.step k) at_u

  -- the new key is above the old one, and tells its junction
  new_key : (v x : ℕ) → v < places → entry a.labels v < x → max (key_at a.queue.entries v) (packed (x + psi v) v) / places ≡ x + psi v
  new_key v x h m = go (dec_lt 0 (waiting a.queue v))
    where
      go : Dec (0 < waiting a.queue v) → max (key_at a.queue.entries v) (packed (x + psi v) v) / places ≡ x + psi v
      go (yes p) = omega (arith, busy.state.keyed v p)
      go (no p) = omega arith

  pub one_road : Relaxed N psi k label a b
      → Busy N psi n s l turns u k (entry b.labels) (entry b.ways) (waiting b.queue) × (entry b.labels u ≡ entry a.labels u)
  one_road (passed h same_l same_w same_k) = (
    busy_same same_l same_w (λ i. ap (λ (y : ℕ). y / places) (same_k i)) (busy_pass busy here (omega (arith, brings))),
    same_l u,
  )
  one_road (taken h put_l put_w put_k) = (busy_better r, label_u r)
    where
      r : Betters N psi n s l turns u k (N.roads.head k) (N.step k label) (entry a.labels) (entry a.ways) (waiting a.queue)
          (entry b.labels) (entry b.ways) (waiting b.queue)
      r =
          record {
            laws = laws;
            busy = busy;
            road = road;
            tail_is = here;
            head_is = refl;
            head_in = within;
            brings = brings;
            more = h;
            label = put_l;
            way = put_w;
            key = put_waiting a.queue b.queue put_k (new_key (N.roads.head k) (N.step k label) (omega arith) h);
          }

-- ---- the loop: from the last road down to the one in hand

pub record SpreadLoop (rd : Reading) (ns rs : List ℕ) (u next : ℕ) (l l' : Lists) : Type 0 where
  pub chains : l'.chains ≡ l.chains
  pub underway : Underway rd l'
  pub low : next ≤ road_count rs
  pub hit : (j : ℕ) → next ≡ j + 1 → (net rd rs).roads.tail j ≡ u
  pub spreads : Spreads rd ns rs u (road_count rs) next l l'

module _ {rd : Reading} {ns rs : List ℕ} {u : ℕ} {l : Lists} (a : SpreadAsks rd ns rs u l) where
  module _ {k : ℕ} {l₁ : Lists} (i : SpreadLoop rd ns rs u (suc k) l l₁) where
    pub is_road : k < road_count rs
    is_road = omega (arith, i.low)

    here : (net rd rs).roads.tail k ≡ u
    here = i.hit k (omega arith)

    before : Link (net rd rs).roads u (previous_of l.chains k) k
    before = subst (λ (v : ℕ). Link (net rd rs).roads v (previous_of l.chains k) k) here (a.chained.previous k is_road)

    module _ {l₂ : Lists} (r : RelaxKeeps rd ns rs k (entry l.labels u) l₁ l₂) {road : Option ℕ}
        (road_is : road ≡ linked (previous_of l₂.chains k)) where
      on : Spreads rd ns rs u (road_count rs) (previous_of l.chains k) l l₂
      on s label turns b =
          let c = i.spreads s label turns b in
          let o =
          one_road (laws rd ns rs a.readable) (omega (arith, is_road, count_is rd rs)) here
          (heads_in rd ns rs a.readable k is_road) (omega (arith, a.readable.few, junctions_fit, keys_fit)) l₁ l₂ c.0 c.1 r.relaxed
          in
          (busy_skip before o.0, o.1 ∙ c.1)

      next_is : entry_of road ≡ previous_of l.chains k
      next_is = rw (road_is, entry_linked (previous_of l₂.chains k), r.chains, i.chains)

      pub spread_next : SpreadLoop rd ns rs u (entry_of road) l l₂
      spread_next =
          rw next_is
          (record {
            chains = r.chains ∙ i.chains;
            underway = r.underway;
            low = omega (arith, before.low, i.low);
            hit = before.hit;
            spreads = on;
          })

module _ {rd : Reading} {ns rs : List ℕ} {u : ℕ} {l l₁ : Lists} where
  pub spread_done : (road : Option ℕ) → SpreadLoop rd ns rs u (entry_of road) l l₁ → ((k : ℕ) → road ≡ Some k → ⊥)
      → SpreadKeeps rd ns rs u l l₁
  spread_done None i n = record { chains = i.chains; underway = i.underway; spreads = i.spreads }
  spread_done (Some k) i n = absurd (n k refl)
