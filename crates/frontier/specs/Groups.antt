-- The groups of eight, as the private functions see them. No promise cites this file.
use Rattle.std.specs.Prelude.{◌≡◌, List, ℕ, ◌/◌, ◌≤◌, ◌<◌, max, set}
use Rattle.lists.specs.Lists.{entry}
use Rattle.frontier.specs.Frontier.{Greatest}

-- m is the greatest of f from a up to, not including, b
pub record Run (f : ℕ → ℕ) (a b m : ℕ) : Type 0 where
  pub most : (j : ℕ) → a ≤ j → j < b → f j ≤ m
  pub is : (j : ℕ) × (a ≤ j) × (j < b) × (f j ≡ m)

-- queue' is the queue with x at a, and r the greatest of its group
pub record Regrouped (queue : List ℕ) (a x : ℕ) (queue' : List ℕ) (r : ℕ) : Type 0 where
  pub is : queue' ≡ set queue a x
  pub greatest : Greatest (entry queue') (a / 8) r

-- queue' is the queue with the larger of its entry at i and the key there
abbrev pub Lifted : List ℕ → ℕ → ℕ → List ℕ → Type 0
Lifted queue i key queue' = queue' ≡ set queue i (max (entry queue i) key)
