-- The state where a search begins: the source alone has a label, and waits. Assumes nothing.
use mathlib.Core.Path.{◌≡◌, ap}
use Prim.Native.Nat.{ℕ, ◌+◌, ◌<◌}
use native.Mathlib.Omega.{arith}
use Rattle.lists.proofs.Puts.{put_only}
use Rattle.lists.specs.Lists.{Put}
use Rattle.walks.specs.Label.{Net}
use Rattle.search.specs.State.{Settled, Idle}
use Rattle.search.proofs.Counting.{unsettled_all}

module _ (N : Net) (psi : ℕ → ℕ) (n s l : ℕ) (L W K L' K' : ℕ → ℕ) (none : (v : ℕ) → L v ≡ 0) (empty : (v : ℕ) → K v ≡ 0)
    (p : Put L L' s l) (q : Put K K' s (l + psi s)) (some : 0 < l) (within : s < n) where
  labelled : (v : ℕ) → 0 < L' v → v ≡ s
  labelled = put_only p none

  keyed : (v : ℕ) → 0 < K' v → v ≡ s
  keyed = put_only q empty

  waits : (v : ℕ) → 0 < L' v → 0 < K' v
  waits v h = omega (arith, ap K' (labelled v h), q.here)

  unset : (v : ℕ) → Settled L' K' v → ⊥
  unset v t = omega (arith, waits v t.labelled, t.taken)

  pub begin : Idle N psi n s l 0 L' W K'
  begin =
      record {
        state =
            record {
              rank = λ v. 0;
              rank_le = λ v. omega arith;
              rank_pos = λ v t. absurd (unset v t);
              counted = omega (arith, unsettled_all L' K' waits n);
              inside = λ v h. omega (arith, labelled v h);
              start = p.here;
              some = some;
              alone = λ v h k. labelled v h;
              waits = λ v h. omega (arith, ap L' (keyed v h), p.here);
              keyed = λ v h. omega (arith, ap K' (keyed v h), ap L' (keyed v h), ap psi (keyed v h), p.here, q.here);
              ordered = λ u v t h. absurd (unset u t);
              via = λ v h e. absurd (e (labelled v h));
            };
        relaxed = λ k h t. absurd (unset _ t);
      }
