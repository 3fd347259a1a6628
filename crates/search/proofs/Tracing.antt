-- The route from the ways: back from a settled junction the ranks fall, so it comes to the source and visits no junction
-- twice. Assumes nothing.
use mathlib.Core.Path.{◌≡◌, refl, sym, ap, ◌∙◌, subst}
use mathlib.Core.List.{List, [], ◌∷◌}
use mathlib.Core.Logic.{◌≢◌}
use Prim.Native.Nat.{ℕ, zero, suc, ◌+◌, ◌≤◌}
use native.Mathlib.Decide.{ℕ_discrete}
use native.Mathlib.Omega.{arith}
use lib.ListN.{length}
use Rattle.walks.proofs.Stops.{Rising, rising_none, rising_more, rising_once}
use Rattle.walks.specs.Label.{Net, after}
use Rattle.walks.specs.Walk.{Walk, stay, go}
use Rattle.search.specs.State.{Settled, State}
use Rattle.search.specs.Trails.{Trail, here, back, Route}

-- the end of the route, from v to t
record End (N : Net) (rank L : ℕ → ℕ) (v t : ℕ) (es : List ℕ) : Type 0 where
  pub walk : Walk N.roads v es t
  pub brings : after N es (L v) ≡ L t
  pub rising : Rising N.roads rank v es
  pub fits : length es + rank v ≤ rank t

module _ (N : Net) (psi : ℕ → ℕ) (n s l turns : ℕ) (L W K : ℕ → ℕ) (i : State N psi n s l turns L W K) (t : ℕ) where
  -- one road further back
  end_back : (v : ℕ) (es : List ℕ) → Settled L K v → v ≢ s → End N i.rank L v t es
      → End N i.rank L (N.roads.tail (W v)) t (W v ∷ es)
  end_back v es c e d =
      let a = i.via v c.labelled e in
      record {
        walk = go (W v) a.road refl (subst (λ (u : ℕ). Walk N.roads u es t) (sym a.here) d.walk);
        brings = ap (after N es) a.exact ∙ d.brings;
        rising =
            rising_more N.roads i.rank (N.roads.tail (W v)) (W v) es (omega (arith, a.earlier c, ap i.rank a.here))
            (subst (λ (u : ℕ). Rising N.roads i.rank u es) (sym a.here) d.rising);
        fits = omega (arith, a.earlier c, d.fits);
      }

  -- what is traced from v on: the rest of the trail, and the whole route
  record Traced (v : ℕ) (es : List ℕ) : Type 0 where
    pub by : List ℕ
    pub trail : Trail N.roads W n s v es by
    pub end : End N i.rank L s t by
    pub source : Settled L K s

  -- one turn of the trace; `on` traces from junctions settled earlier
  traces : (m v : ℕ) (es : List ℕ) → i.rank v ≤ suc m → Settled L K v → End N i.rank L v t es → Dec (v ≡ s)
      → ((w : ℕ) (fs : List ℕ) → i.rank w ≤ m → Settled L K w → End N i.rank L w t fs → Traced w fs) → Traced v es
  traces m v es h c d (yes e) on =
      record {
        by = es;
        trail = subst (λ (u : ℕ). Trail N.roads W n s u es es) (sym e) here;
        end = subst (λ (u : ℕ). End N i.rank L u t es) e d;
        source = subst (λ (u : ℕ). Settled L K u) e c;
      }
  traces m v es h c d (no e) on =
      let a = i.via v c.labelled e in
      let r = on (N.roads.tail (W v)) (W v ∷ es) (omega (arith, a.earlier c)) a.from (end_back v es c e d) in
      record {
        by = r.by;
        trail = back e (i.inside v c.labelled) a.road r.trail;
        end = r.end;
        source = r.source;
      }

  trace : (m v : ℕ) (es : List ℕ) → i.rank v ≤ m → Settled L K v → End N i.rank L v t es → Traced v es
  trace zero v es h c d = absurd (omega (arith, i.rank_pos v c))
  trace (suc m) v es h c d = traces m v es h c d (ℕ_discrete v s) (λ w fs. trace m w fs)

  end_none : End N i.rank L t t []
  end_none = record { walk = stay; brings = refl; rising = rising_none N.roads i.rank t; fits = omega arith }

  pub traced : Settled L K t → Route N W n s l t (L t)
  traced c =
      let r = trace (i.rank t) t [] (omega arith) c end_none in
      record {
        by = r.by;
        trail = r.trail;
        few = omega (arith, r.end.fits, i.rank_pos s r.source, i.rank_le t, i.counted);
        walk = r.end.walk;
        once = rising_once N.roads i.rank s r.by r.end.rising;
        brings = ap (after N r.by) (sym i.start) ∙ r.end.brings;
      }
