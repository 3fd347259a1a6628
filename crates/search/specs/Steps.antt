-- What the parts of the search ask and keep. No promise cites this file.
use Rattle.std.specs.Prelude.{◌≡◌, List, ℕ, ◌+◌, ◌*◌, ◌/◌, ◌%◌, ◌^◌, ◌≤◌, ◌<◌, max}
use Rattle.lists.specs.Lists.{entry, Same, Put}
use Rattle.frontier.specs.Frontier.{places, key_at}
use Rattle.frontier.specs.Queues.{Queued}
use Rattle.frontier.specs.declared.Queue.{Queue}
use Rattle.network.specs.Files.{junctions, road_count}
use Rattle.walks.specs.Label.{Net}
use Rattle.reading.specs.Asks.{Readable}
use Rattle.reading.specs.Reading.{most_label, psi, net}
use Rattle.reading.specs.declared.Reading.{Reading}
use Rattle.search.specs.Sizes.{most_places}
use Rattle.search.specs.Chains.{Chained}
use Rattle.search.specs.State.{Busy}
use Rattle.search.specs.declared.Lists.{Lists}
use Rattle.search.specs.declared.Offer.{Offer}

-- the key of a junction that waits, without its place
abbrev pub waiting : Queue → ℕ → ℕ
waiting q v = key_at q.entries v / places

-- the key with its place
abbrev pub packed : ℕ → ℕ → ℕ
packed key v = key * places + v

pub record KeyAsks (ns : List ℕ) (v : ℕ) : Type 0 where
  pub within : v < junctions ns
  pub few : junctions ns ≤ most_places

-- a search on its way
pub record Underway (rd : Reading) (l : Lists) : Type 0 where
  pub queued : Queued l.queue
  pub bounded : (v : ℕ) → entry l.labels v ≤ most_label rd.battery
  pub real : (v : ℕ) → 0 < key_at l.queue.entries v → 0 < waiting l.queue v

-- ---- an offer to junction v: a label by a road, with its key

pub record OfferAsks (l : Lists) (v : ℕ) (o : Offer) : Type 0 where
  pub queued : Queued l.queue
  pub within : v < most_places
  pub key_small : o.key < 2 ^ 63
  pub tells : o.key % places ≡ v

-- the offer is taken where it betters the label, and only there
pub data Change (L W K : ℕ → ℕ) (v label road key : ℕ) (L' W' K' : ℕ → ℕ) : Type 0 where
  passed : label ≤ L v → Same L L' → Same W W' → Same K K' → Change L W K v label road key L' W' K'
  taken : L v < label → Put L L' v label → Put W W' v road → Put K K' v (max (K v) key)
      → Change L W K v label road key L' W' K'

-- the same over the lists
abbrev pub Changes : Lists → ℕ → ℕ → ℕ → ℕ → Lists → Type 0
Changes l v label road key l' =
    Change (entry l.labels) (entry l.ways) (key_at l.queue.entries) v label road key (entry l'.labels) (entry l'.ways) (key_at l'.queue.entries)

pub record Offered (l : Lists) (v : ℕ) (o : Offer) (l' : Lists) : Type 0 where
  pub chains : l'.chains ≡ l.chains
  pub queued : Queued l'.queue
  pub change : Changes l v o.label o.road o.key l'

-- ---- a road relaxed, from a label where it is entered

pub record RelaxAsks (rd : Reading) (ns rs : List ℕ) (k label : ℕ) (l : Lists) : Type 0 where
  pub readable : Readable rd.battery ns rs
  pub underway : Underway rd l
  pub road : k < road_count rs
  pub some : 0 < label
  pub label_le : label ≤ most_label rd.battery

-- what road k brings its end from the label
abbrev pub Relaxed : Net → (ℕ → ℕ) → ℕ → ℕ → Lists → Lists → Type 0
Relaxed N psi k label l l' =
    Changes l (N.roads.head k) (N.step k label) k (packed (N.step k label + psi (N.roads.head k)) (N.roads.head k)) l'

pub record RelaxKeeps (rd : Reading) (ns rs : List ℕ) (k label : ℕ) (l l' : Lists) : Type 0 where
  pub chains : l'.chains ≡ l.chains
  pub underway : Underway rd l'
  pub relaxed : Relaxed (net rd rs) (psi rd ns) k label l l'

-- ---- all roads that are entered at u

pub record SpreadAsks (rd : Reading) (ns rs : List ℕ) (u : ℕ) (l : Lists) : Type 0 where
  pub readable : Readable rd.battery ns rs
  pub chained : Chained (net rd rs).roads (road_count rs) l.chains
  pub underway : Underway rd l
  pub within : u < most_places
  pub some : 0 < entry l.labels u

-- in a search over the lists u was settled last, and its roads from p on are relaxed
abbrev pub BusyIn : Reading → List ℕ → List ℕ → ℕ → ℕ → ℕ → ℕ → ℕ → Lists → Type 0
BusyIn rd ns rs s label turns u p l =
    Busy (net rd rs) (psi rd ns) (junctions ns) s label turns u p (entry l.labels) (entry l.ways) (waiting l.queue)

-- from road p on down to road q of u, for a search from any source with any label
abbrev pub Spreads : Reading → List ℕ → List ℕ → ℕ → ℕ → ℕ → Lists → Lists → Type 0
Spreads rd ns rs u p q l l' =
    (s label turns : ℕ) → BusyIn rd ns rs s label turns u p l
    → BusyIn rd ns rs s label turns u q l' × (entry l'.labels u ≡ entry l.labels u)

pub record SpreadKeeps (rd : Reading) (ns rs : List ℕ) (u : ℕ) (l l' : Lists) : Type 0 where
  pub chains : l'.chains ≡ l.chains
  pub underway : Underway rd l'
  pub spreads : Spreads rd ns rs u (road_count rs) 0 l l'
