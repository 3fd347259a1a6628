-- The roads of each junction as a chain. In one list: first the last road entered at each junction, then for each road the
-- previous one entered at the same junction; each plus one, 0 for none. No promise cites this file.
use Rattle.std.specs.Prelude.{◌≡◌, List, ◌≢◌, ℕ, zero, suc, ◌+◌, ◌≤◌, ◌<◌, Option, Some, None}
use Rattle.lists.specs.Lists.{entry}
use Rattle.network.specs.Files.{most_roads}
use Rattle.walks.specs.Walk.{Roads}
use Rattle.search.specs.Sizes.{most_places}

abbrev pub last_of : List ℕ → ℕ → ℕ
last_of chains v = entry chains v

abbrev pub previous_of : List ℕ → ℕ → ℕ
previous_of chains k = entry chains (most_places + k)

-- the road that an entry tells
abbrev pub linked : ℕ → Option ℕ
linked zero = None
linked (suc k) = Some k

-- no road is on a chain
abbrev pub Unchained : List ℕ → Type 0
Unchained chains = (v : ℕ) → v < most_places → last_of chains v ≡ 0

-- p is the last road below k that is entered at v, plus one, or 0
pub record Link (R : Roads) (v p k : ℕ) : Type 0 where
  pub low : p ≤ k
  pub gap : (j : ℕ) → p ≤ j → j < k → R.tail j ≢ v
  pub hit : (j : ℕ) → p ≡ j + 1 → R.tail j ≡ v

-- the chains of the roads below k
pub record Chained (R : Roads) (k : ℕ) (chains : List ℕ) : Type 0 where
  pub lasts : (v : ℕ) → v < most_places → Link R v (last_of chains v) k
  pub previous : (j : ℕ) → j < k → Link R (R.tail j) (previous_of chains j) j

-- what the chaining asks: roads entered at junctions, and a list with no road yet
pub record ChainAsks (R : Roads) (chains : List ℕ) : Type 0 where
  pub few : R.count ≤ most_roads
  pub within : (k : ℕ) → k < R.count → R.tail k < most_places
  pub empty : Unchained chains
