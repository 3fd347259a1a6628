-- A list of zeros is a queue in which nothing waits, and the other way round. Assumes nothing.
use mathlib.Core.Path.{◌≡◌, refl, ap}
use mathlib.Core.List.{List}
use mathlib.Core.Logic.{inl}
use Prim.Native.Nat.{ℕ, ◌+◌, ◌*◌, ◌-◌, ◌%◌, ◌≤◌, ◌<◌}
use native.Mathlib.Decide.{dec_lt}
use native.Mathlib.Omega.{arith}
use lib.ListN.{length}
use Rattle.lists.specs.Lists.{entry, AllZero}
use Rattle.frontier.specs.Frontier.{tree_from, ones_from, keys_from, group_of, Frontier, Top}

pub empty : (queue : List ℕ) → AllZero queue → keys_from ≤ length queue → length queue % 8 ≡ 0 → Frontier queue
empty queue z l w = record {
  long = l;
  whole = w;
  small = record { below = λ i. omega (arith, z i) };
  tells = λ v h. absurd (omega (arith, z (keys_from + v)));
  unused = λ i _. z i;
  level = λ i _ _. rw (z i) (record { most = λ j _. omega (arith, z j); is = (group_of i * 8, omega arith, z (group_of i * 8)) });
}

pub empty_top : (queue : List ℕ) → AllZero queue → Top queue 0
empty_top queue z = record { most = λ v. omega (arith, z (keys_from + v)); is = inl refl }

-- where every key is 0, so is every entry: level by level, since an entry is one of the group below it
module _ {queue : List ℕ} (f : Frontier queue) (t : Top queue 0) where
  from_keys : (i : ℕ) → keys_from ≤ i → entry queue i ≡ 0
  from_keys i h = let e : keys_from + (i - keys_from) ≡ i = omega arith in omega (arith, ap (entry queue) e, t.most (i - keys_from))

  level_up : (a b : ℕ) → tree_from ≤ a → b ≤ group_of a * 8 → b ≤ keys_from → ((i : ℕ) → b ≤ i → entry queue i ≡ 0)
      → (i : ℕ) → a ≤ i → entry queue i ≡ 0
  level_up a b t h k z i l = go (dec_lt i b)
    where
      go : Dec (i < b) → entry queue i ≡ 0
      go (yes u) = let (j, g, e) = (f.level i (omega arith) (omega arith)).is in omega (arith, z j (omega arith))
      go (no u) = z i (omega arith)

  in_tree : (i : ℕ) → tree_from ≤ i → entry queue i ≡ 0
  in_tree =
      level_up tree_from 8 (omega arith) (omega arith) (omega arith)
      (level_up 8 ones_from (omega arith) (omega arith) (omega arith)
      (level_up ones_from keys_from (omega arith) (omega arith) (omega arith) from_keys))

  pub emptied : AllZero queue
  emptied i = go (dec_lt i tree_from)
    where
      go : Dec (i < tree_from) → entry queue i ≡ 0
      go (yes u) = f.unused i u
      go (no u) = in_tree i (omega arith)
