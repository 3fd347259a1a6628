-- Keys with their places. Assumes nothing.
use mathlib.Core.Path.{◌≡◌, ap, ◌∙◌}
use Prim.Native.Nat.{ℕ, ◌+◌, ◌/◌, ◌%◌, ◌<◌}
use native.Mathlib.Omega.{arith}
use Rattle.lists.specs.Lists.{Put}
use Rattle.frontier.specs.Frontier.{places, keys_from, key_at}
use Rattle.frontier.specs.Queues.{Empty}
use Rattle.frontier.specs.declared.Queue.{Queue}
use Rattle.search.specs.Steps.{waiting, packed}

pub packed_tells : (key v : ℕ) → v < places → packed key v % places ≡ v
packed_tells key v h = omega arith

-- where nothing waits there is no key
pub no_key : {q : Queue} → Empty q → (v : ℕ) → key_at q.entries v ≡ 0
no_key e v = e.zeros (keys_from + v)

-- a key changed at v, without its place
pub put_waiting : (q q' : Queue) {v key x : ℕ} → Put (key_at q.entries) (key_at q'.entries) v key → key / places ≡ x
    → Put (waiting q) (waiting q') v x
put_waiting q q' p e =
    record {
      here = ap (λ (y : ℕ). y / places) p.here ∙ e;
      rest = λ i ne. ap (λ (y : ℕ). y / places) (p.rest i ne);
    }
