-- What the queue's methods ask and keep. No entry's promise cites this file.
use Rattle.std.specs.Prelude.{◌≡◌, ℕ, ◌%◌, ◌^◌, ◌≤◌, ◌<◌, Option, Some, None}
use Rattle.lists.specs.Lists.{AllZero}
use Rattle.frontier.specs.Frontier.{places, key_at, Frontier, Top}
use Rattle.frontier.specs.Frontier as tree
use Rattle.frontier.specs.declared.Queue.{Queue}

-- a queue with its greatest key
pub record Queued (q : Queue) : Type 0 where
  pub frontier : Frontier q.entries
  pub best : Top q.entries q.top

-- nothing waits: every entry is 0
pub record Empty (q : Queue) : Type 0 where
  pub queued : Queued q
  pub zeros : AllZero q.entries

-- the place v may get this key
pub record Raises (q : Queue) (v key : ℕ) : Type 0 where
  pub queued : Queued q
  pub within : v < places
  pub key_small : key < 2 ^ 63
  pub tells : 0 < key → key % places ≡ v

-- q' is the queue with this key at v
abbrev pub Now : Queue → ℕ → ℕ → Queue → Type 0
Now q v key q' = tree.Now q.entries v key q'.entries q'.top

-- v had the greatest key, and is taken out
pub record Popped (q : Queue) (v : ℕ) (q' : Queue) : Type 0 where
  pub within : v < places
  pub waiting : 0 < key_at q.entries v
  pub most : (u : ℕ) → key_at q.entries u ≤ key_at q.entries v
  pub now : Now q v 0 q'

-- the place with the greatest key is taken out, if one waits
abbrev pub Pops : Queue → Option ℕ → Queue → Type 0
Pops q None q' = Empty q × (q' ≡ q)
Pops q (Some v) q' = Popped q v q'
