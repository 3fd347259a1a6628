-- The junctions that roads lead to from one: marked by a label above 0, and listed in the ways in the order in which they are
-- found. No promise cites this file.
use Rattle.std.specs.Prelude.{◌≡◌, Bool, true, false, List, ◌⊎◌, ℕ, ◌+◌, ◌≤◌, ◌<◌, length}
use Rattle.lists.specs.Lists.{entry, AllZero, zeros}
use Rattle.network.specs.Files.{most_roads}
use Rattle.walks.specs.Walk.{Roads, Walk}
use Rattle.search.specs.Sizes.{most_places}
use Rattle.search.specs.Chains.{Chained}
use Rattle.search.specs.declared.Lists.{Lists}
use Rattle.search.specs.declared.Trip.{Trip}

-- how many are not marked
abbrev pub unmarked : List ℕ → ℕ
unmarked labels = zeros (entry labels) (length labels)

-- the roads, chained; each ends at a junction
pub record Tracked (R : Roads) (chains : List ℕ) : Type 0 where
  pub chained : Chained R R.count chains
  pub few_roads : R.count ≤ most_roads
  pub within : (k : ℕ) → k < R.count → R.head k < most_places

-- the first `last` of the ways are the marked junctions
pub record Listed (labels ways : List ℕ) (last : ℕ) : Type 0 where
  pub few : last ≤ most_places
  pub counted : last + unmarked labels ≡ length labels
  pub each : (i : ℕ) → i < last → 0 < entry labels (entry ways i)
  pub found : (v : ℕ) → 0 < entry labels v → (i : ℕ) × (i < last) × (entry ways i ≡ v)

-- ---- the roads of one junction

pub record MarkAsks (R : Roads) (u last : ℕ) (l : Lists) : Type 0 where
  pub tracked : Tracked R l.chains
  pub listed : Listed l.labels l.ways last
  pub marked : 0 < entry l.labels u

-- a road from u to v
pub record From (R : Roads) (u v : ℕ) : Type 0 where
  pub by : ℕ
  pub road : by < R.count
  pub tail_is : R.tail by ≡ u
  pub head_is : R.head by ≡ v

-- the roads of u from p on are followed: last and l before, last' and l' after
pub record Marks (R : Roads) (u p last : ℕ) (l : Lists) (last' : ℕ) (l' : Lists) : Type 0 where
  pub chains : l'.chains ≡ l.chains
  pub listed : Listed l'.labels l'.ways last'
  pub more : last ≤ last'
  pub kept : (v : ℕ) → 0 < entry l.labels v → 0 < entry l'.labels v
  pub same : (i : ℕ) → i < last → entry l'.ways i ≡ entry l.ways i
  pub new : (v : ℕ) → 0 < entry l'.labels v → (0 < entry l.labels v) ⊎ From R u v
  pub followed : (k : ℕ) → p ≤ k → k < R.count → R.tail k ≡ u → 0 < entry l'.labels (R.head k)

-- ---- all roads

pub record ReachAsks (R : Roads) (source : ℕ) (l : Lists) : Type 0 where
  pub tracked : Tracked R l.chains
  pub source_in : source < most_places
  pub no_label : AllZero l.labels

-- a junction is marked exactly where roads lead from the source
pub record Reaches (R : Roads) (source : ℕ) (labels : List ℕ) : Type 0 where
  pub by : (v : ℕ) → 0 < entry labels v → (ks : List ℕ) × Walk R source ks v
  pub all : {v : ℕ} {ks : List ℕ} → Walk R source ks v → 0 < entry labels v

-- ---- in lists that are lent

pub record LeadAsks (R : Roads) (trip : Trip) : Type 0 where
  pub few_roads : R.count ≤ most_roads
  pub tails_in : (k : ℕ) → k < R.count → R.tail k < most_places
  pub heads_in : (k : ℕ) → k < R.count → R.head k < most_places
  pub source_in : trip.source < most_places
  pub target_in : trip.target < most_places

-- whether a walk leads from v to w
pub record Leads (R : Roads) (v w : ℕ) (r : Bool) : Type 0 where
  pub by : r ≡ true → (ks : List ℕ) × Walk R v ks w
  pub none : r ≡ false → (ks : List ℕ) → Walk R v ks w → ⊥
