-- The place with the greatest key, if one waits. Assumes nothing.
use Rattle.std.proofs.Common.{◌≡◌, ◌%◌, ◌⊎◌, inl, inr, ◌≢◌, None, Some, refl, arith}
use Rattle.frontier.specs.Frontier.{places, key_at}
use Rattle.frontier.specs.Queues.{Queued, Now, Pops}
use Rattle.frontier.specs.declared.Queue.{Queue}
use Rattle.frontier.proofs.Empty.{emptied}

module _ {q : Queue} (d : Queued q) where
  pub pops_none : q.top ≡ 0 → Pops q None q
  pops_none e = (record { queued = d; zeros = emptied d.frontier (rw e at d.best) }, refl)

  module _ (ne : q.top ≢ 0) where
    top_at : key_at q.entries (q.top % places) ≡ q.top
    top_at = go d.best.is
      where
        go : (q.top ≡ 0) ⊎ (key_at q.entries (q.top % places) ≡ q.top) → key_at q.entries (q.top % places) ≡ q.top
        go (inl e) = absurd (ne e)
        go (inr e) = e

    pub pops_some : {q' : Queue} → Now q (q.top % places) 0 q' → Pops q (Some (q.top % places)) q'
    pops_some n =
        record {
          within = omega arith;
          waiting = omega (arith, top_at);
          most = λ u. omega (arith, top_at, d.best.most u);
          now = n;
        }
