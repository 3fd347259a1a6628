-- The state of a search over the junctions below n, from the source s with the label l. L are the labels, W the ways (the road
-- by which each label came), K the keys of the junctions that wait, 0 for the others. No promise cites this file.
use Rattle.std.specs.Prelude.{◌≡◌, ◌≢◌, ℕ, zero, suc, ◌+◌, ◌≤◌, ◌<◌}
use Rattle.lists.specs.Lists.{zeros}
use Rattle.walks.specs.Label.{Net}

-- a settled junction has a label and waits no longer
pub record Settled (L K : ℕ → ℕ) (v : ℕ) : Type 0 where
  pub labelled : 0 < L v
  pub taken : K v ≡ 0

-- 1 for the label and the key of a settled junction, 0 for others
abbrev pub tally : ℕ → ℕ → ℕ
tally zero k = 0
tally (suc l) zero = 1
tally (suc l) (suc k) = 0

-- how many junctions below n are not settled: what is left of the search
abbrev pub unsettled : (ℕ → ℕ) → (ℕ → ℕ) → ℕ → ℕ
unsettled L K n = zeros (λ v. tally (L v) (K v)) n

-- how the label of v came about: by its way, from a junction that was settled before v
pub record Via (N : Net) (rank L W K : ℕ → ℕ) (v : ℕ) : Type 0 where
  pub road : W v < N.roads.count
  pub here : N.roads.head (W v) ≡ v
  pub from : Settled L K (N.roads.tail (W v))
  pub earlier : Settled L K v → rank (N.roads.tail (W v)) < rank v
  pub exact : N.step (W v) (L (N.roads.tail (W v))) ≡ L v

-- after `turns` junctions were settled
pub record State (N : Net) (psi : ℕ → ℕ) (n s l turns : ℕ) (L W K : ℕ → ℕ) : Type 0 where
  -- the turn in which each junction was settled; the code has no such thing
  pub rank : ℕ → ℕ
  pub rank_le : (v : ℕ) → rank v ≤ turns
  pub rank_pos : (v : ℕ) → Settled L K v → 0 < rank v
  pub counted : turns + unsettled L K n ≡ n
  pub inside : (v : ℕ) → 0 < L v → v < n
  -- the source keeps its label, and as long as it waits it is alone
  pub start : L s ≡ l
  pub some : 0 < l
  pub alone : (v : ℕ) → 0 < L v → 0 < K s → v ≡ s
  -- the key of a junction that waits
  pub waits : (v : ℕ) → 0 < K v → 0 < L v
  pub keyed : (v : ℕ) → 0 < K v → K v ≡ L v + psi v
  -- every waiting key is at most every settled one
  pub ordered : (u v : ℕ) → Settled L K u → 0 < K v → K v ≤ L u + psi u
  pub via : (v : ℕ) → 0 < L v → v ≢ s → Via N rank L W K v

-- road k brings its head no more than the label there
abbrev pub Kept : Net → (ℕ → ℕ) → ℕ → Type 0
Kept N L k = N.step k (L (N.roads.tail k)) ≤ L (N.roads.head k)

-- u was settled last, and of its roads those from p on are relaxed
pub record Busy (N : Net) (psi : ℕ → ℕ) (n s l turns u p : ℕ) (L W K : ℕ → ℕ) : Type 0 where
  pub state : State N psi n s l turns L W K
  pub settled : Settled L K u
  pub latest : (w : ℕ) → Settled L K w → L u + psi u ≤ L w + psi w
  pub relaxed : (k : ℕ) → k < N.roads.count → Settled L K (N.roads.tail k) → (N.roads.tail k ≡ u → p ≤ k) → Kept N L k

-- every road out of a settled junction is relaxed
pub record Idle (N : Net) (psi : ℕ → ℕ) (n s l turns : ℕ) (L W K : ℕ → ℕ) : Type 0 where
  pub state : State N psi n s l turns L W K
  pub relaxed : (k : ℕ) → k < N.roads.count → Settled L K (N.roads.tail k) → Kept N L k

-- u has the greatest key of those that wait
pub record Next (K : ℕ → ℕ) (u : ℕ) : Type 0 where
  pub waiting : 0 < K u
  pub most : (v : ℕ) → K v ≤ K u
