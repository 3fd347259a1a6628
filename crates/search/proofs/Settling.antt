-- The state when the junction u with the greatest key is settled. Assumes nothing.
use mathlib.Core.Path.{◌≡◌, sym, ap, ◌∙◌}
use mathlib.Core.Logic.{◌≢◌}
use Prim.Native.Nat.{ℕ, suc, ◌+◌, ◌≤◌, ◌<◌}
use native.Mathlib.Decide.{ℕ_discrete}
use native.Mathlib.Omega.{arith}
use Rattle.lists.proofs.Puts.{put, put_is}
use Rattle.lists.proofs.Zeros.{zeros_put}
use Rattle.lists.specs.Lists.{Put}
use Rattle.walks.specs.Label.{Net}
use Rattle.search.specs.State.{Settled, tally, unsettled, Via, Kept, Busy, Idle, Next}
use Rattle.search.proofs.Counting.{tally_settled, tally_open}

module _ (N : Net) (psi : ℕ → ℕ) (n s l turns u : ℕ) (L W K K' : ℕ → ℕ) (i : Idle N psi n s l turns L W K) (x : Next K u)
    (q : Put K K' u 0) where
  rank : ℕ → ℕ
  rank = put i.state.rank u (suc turns)

  ranked : Put i.state.rank rank u (suc turns)
  unfolding rank
  ranked = put_is i.state.rank u (suc turns)

  has : 0 < L u
  has = i.state.waits u x.waiting

  -- a junction settled before is another one, and stays settled
  before : (v : ℕ) → Settled L K v → v ≢ u
  before v t e = omega (arith, ap K e, t.taken, x.waiting)

  stays : (v : ℕ) → Settled L K v → Settled L K' v
  stays v t = record { labelled = t.labelled; taken = q.rest v (before v t) ∙ t.taken }

  -- a junction settled now is u or was settled before
  was : (v : ℕ) → Settled L K' v → v ≢ u → Settled L K v
  was v t e = record { labelled = t.labelled; taken = sym (q.rest v e) ∙ t.taken }

  pub now : Settled L K' u
  now = record { labelled = has; taken = q.here }

  rank_le : (v : ℕ) → Dec (v ≡ u) → rank v ≤ suc turns
  rank_le v (yes e) = omega (arith, ap rank e, ranked.here)
  rank_le v (no e) = omega (arith, ranked.rest v e, i.state.rank_le v)

  rank_pos : (v : ℕ) → Settled L K' v → Dec (v ≡ u) → 0 < rank v
  rank_pos v t (yes e) = omega (arith, ap rank e, ranked.here)
  rank_pos v t (no e) = omega (arith, ranked.rest v e, i.state.rank_pos v (was v t e))

  -- a junction that waits now waited before
  waited : (v : ℕ) → 0 < K' v → Dec (v ≡ u) → K v ≡ K' v
  waited v h (yes e) = absurd (omega (arith, ap K' e, q.here))
  waited v h (no e) = sym (q.rest v e)

  least : (w v : ℕ) → Settled L K' w → 0 < K' v → Dec (w ≡ u) → K' v ≤ L w + psi w
  least w v t h (yes e) =
      omega (
        arith,
        waited v h (ℕ_discrete v u),
        x.most v,
        i.state.keyed u x.waiting,
        ap L e,
        ap psi e,
      )
  least w v t h (no e) =
      let y = waited v h (ℕ_discrete v u) in
      omega (arith, i.state.ordered w v (was w t e) (omega arith))

  via : (v : ℕ) → Via N i.state.rank L W K v → Via N rank L W K' v
  via v d =
      record {
        road = d.road;
        here = d.here;
        from = stays _ d.from;
        earlier = λ t. earlier t (ℕ_discrete v u);
        exact = d.exact;
      }
    where
      tail_rank : rank (N.roads.tail (W v)) ≡ i.state.rank (N.roads.tail (W v))
      tail_rank = ranked.rest _ (before _ d.from)

      earlier : Settled L K' v → Dec (v ≡ u) → rank (N.roads.tail (W v)) < rank v
      earlier t (yes e) = omega (arith, tail_rank, i.state.rank_le (N.roads.tail (W v)), ap rank e, ranked.here)
      earlier t (no e) = omega (arith, tail_rank, d.earlier (was v t e), ranked.rest v e)

  latest : (w : ℕ) → Settled L K' w → Dec (w ≡ u) → L u + psi u ≤ L w + psi w
  latest w t (yes e) = omega (arith, ap L e, ap psi e)
  latest w t (no e) = omega (arith, i.state.ordered w u (was w t e) x.waiting, i.state.keyed u x.waiting)

  relaxed : (k : ℕ) → k < N.roads.count → Settled L K' (N.roads.tail k) → (N.roads.tail k ≡ u → N.roads.count ≤ k)
      → Dec (N.roads.tail k ≡ u) → Kept N L k
  relaxed k h t m (yes e) = absurd (omega (arith, m e))
  relaxed k h t m (no e) = i.relaxed k h (was _ t e)

  tallied : Put (λ v. tally (L v) (K v)) (λ v. tally (L v) (K' v)) u 1
  tallied = record { here = tally_settled (L u) (K' u) has q.here; rest = λ v e. ap (tally (L v)) (q.rest v e) }

  one_less : suc (unsettled L K' n) ≡ unsettled L K n
  one_less = zeros_put tallied (tally_open (L u) (K u) (λ _. x.waiting)) (omega arith) n (i.state.inside u has)

  pub settle : Busy N psi n s l (suc turns) u N.roads.count L W K'
  settle =
      record {
        state =
            record {
              rank = rank;
              rank_le = λ v. rank_le v (ℕ_discrete v u);
              rank_pos = λ v t. rank_pos v t (ℕ_discrete v u);
              counted = omega (arith, i.state.counted, one_less);
              inside = i.state.inside;
              start = i.state.start;
              some = i.state.some;
              alone = λ v h k. i.state.alone v h (omega (arith, waited s k (ℕ_discrete s u)));
              waits = λ v h. i.state.waits v (omega (arith, waited v h (ℕ_discrete v u)));
              keyed = λ v h. let y = waited v h (ℕ_discrete v u) in omega (arith, i.state.keyed v (omega arith));
              ordered = λ w v t h. least w v t h (ℕ_discrete w u);
              via = λ v h e. via v (i.state.via v h e);
            };
        settled = now;
        latest = λ w t. latest w t (ℕ_discrete w u);
        relaxed = λ k h t m. relaxed k h t m (ℕ_discrete (N.roads.tail k) u);
      }
