-- A list of ways, followed back from the target. No promise cites this file.
use Rattle.std.specs.Prelude.{◌≡◌, List, [], ◌++◌, ℕ, ◌≤◌, ◌<◌, length, drop}
use Rattle.lists.specs.Lists.{entry}
use Rattle.walks.specs.Walk.{Roads}
use Rattle.search.specs.Trails.{Trail}

-- the trail of a list of ways, from t back to s
abbrev pub TrailOf : Roads → List ℕ → ℕ → ℕ → List ℕ → Type 0
TrailOf R ways s t ks = Trail R (λ v. entry ways v) (length ways) s t [] ks

-- there is one, and it has fewer roads than there are ways
pub record Trailed (R : Roads) (ways : List ℕ) (s t : ℕ) : Type 0 where
  pub by : List ℕ
  pub trail : TrailOf R ways s t by
  pub few : length by < length ways

-- count is its length, and the list has room for it
pub record WriteAsks (R : Roads) (ways : List ℕ) (s t count : ℕ) (list : List ℕ) : Type 0 where
  pub trailed : Trailed R ways s t
  pub count_is : count ≡ length trailed.by
  pub fits : count ≤ length list

-- count is the length of the trail
abbrev pub Counted : Roads → List ℕ → ℕ → ℕ → ℕ → Type 0
Counted R ways s t count = (ks : List ℕ) → TrailOf R ways s t ks → count ≡ length ks

-- list' is the list with the trail at its front
abbrev pub Written : Roads → List ℕ → ℕ → ℕ → List ℕ → List ℕ → Type 0
Written R ways s t list list' = (ks : List ℕ) → TrailOf R ways s t ks → list' ≡ ks ++ drop (length ks) list
