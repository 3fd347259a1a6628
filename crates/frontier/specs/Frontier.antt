-- The queue of a search, as a tree in one list: for three levels each entry is the greatest of a group of eight, and then come the
-- keys. It may have any whole number of groups; past the end every entry is 0. No entry's promise cites this file.
use Rattle.std.specs.Prelude.{◌≡◌, List, ◌⊎◌, ℕ, ◌+◌, ◌*◌, ◌-◌, ◌/◌, ◌%◌, ◌^◌, ◌≤◌, ◌<◌, length}
use Rattle.lists.specs.Lists.{entry, Put}

-- how many entries stand at the top, at the end of the first group: one for 512 places
abbrev pub tops : ℕ
tops = 4

-- how many places a key can tell
abbrev pub places : ℕ
places = 512 * tops

-- where the tree begins, its last level, and the keys
abbrev pub tree_from : ℕ
tree_from = 8 - tops

abbrev pub ones_from : ℕ
ones_from = 8 + 8 * tops

abbrev pub keys_from : ℕ
keys_from = ones_from + 64 * tops

-- the group of eight below entry i: entry 8, the first after the top, begins the group after those of the top
abbrev pub group_of : ℕ → ℕ
group_of i = i + 1 - tree_from

-- the key of place v, 0 where it does not wait
abbrev pub key_at : List ℕ → ℕ → ℕ
key_at queue v = entry queue (keys_from + v)

-- every entry is below 2^63, so that two compare alike with and without a sign
pub record Small (queue : List ℕ) : Type 0 where
  pub below : (i : ℕ) → entry queue i < 2 ^ 63

-- m is the greatest of the eight of f in group i
pub record Greatest (f : ℕ → ℕ) (i m : ℕ) : Type 0 where
  pub most : (j : ℕ) → j / 8 ≡ i → f j ≤ m
  pub is : (j : ℕ) × (j / 8 ≡ i) × (f j ≡ m)

-- a queue
pub record Frontier (queue : List ℕ) : Type 0 where
  pub long : keys_from ≤ length queue
  pub whole : length queue % 8 ≡ 0
  pub small : Small queue
  pub tells : (v : ℕ) → 0 < key_at queue v → key_at queue v % places ≡ v
  pub unused : (i : ℕ) → i < tree_from → entry queue i ≡ 0
  pub level : (i : ℕ) → tree_from ≤ i → i < keys_from → Greatest (entry queue) (group_of i) (entry queue i)

-- top is the greatest key, and 0 where none waits
pub record Top (queue : List ℕ) (top : ℕ) : Type 0 where
  pub most : (v : ℕ) → key_at queue v ≤ top
  pub is : (top ≡ 0) ⊎ (key_at queue (top % places) ≡ top)

-- the place v may get this key, where top is the greatest
pub record Raises (queue : List ℕ) (top v key : ℕ) : Type 0 where
  pub frontier : Frontier queue
  pub best : Top queue top
  pub within : keys_from + v < length queue
  pub key_small : key < 2 ^ 63
  pub tells : 0 < key → key % places ≡ v

-- the place v may be taken out
pub record Removes (queue : List ℕ) (v : ℕ) : Type 0 where
  pub frontier : Frontier queue
  pub within : keys_from + v < length queue
  pub placed : v < places

-- queue' is the queue with this key at v; r is its greatest key
pub record Now (queue : List ℕ) (v key : ℕ) (queue' : List ℕ) (r : ℕ) : Type 0 where
  pub put : Put (key_at queue) (key_at queue') v key
  pub long : length queue' ≡ length queue
  pub frontier : Frontier queue'
  pub best : Top queue' r
