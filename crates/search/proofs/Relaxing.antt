-- A road that brings its head a larger label keeps the state. Assumes nothing.
use mathlib.Core.Path.{◌≡◌, sym, ap, ◌∙◌, subst}
use mathlib.Core.Logic.{◌≢◌}
use Prim.Native.Nat.{ℕ, ◌+◌, ◌≤◌, ◌<◌}
use native.Mathlib.Decide.{ℕ_discrete}
use native.Mathlib.Omega.{arith}
use Rattle.walks.specs.Label.{Net}
use Rattle.search.specs.State.{Settled, Via, Kept, State, Busy}
use Rattle.search.proofs.Better.{Betters, brings_le, settled_other, settled_after_other, settled_after, settled_before, settled_source, label_u, label_grows, unsettled_after}

module _ {N : Net} {psi : ℕ → ℕ} {n s l turns u k v x : ℕ} {L W K L' W' K' : ℕ → ℕ}
    (r : Betters N psi n s l turns u k v x L W K L' W' K') where
  abbrev before : State N psi n s l turns L W K
  before = r.busy.state

  inside : (y : ℕ) → 0 < L' y → Dec (y ≡ v) → y < n
  inside y h (yes e) = omega (arith, r.head_in)
  inside y h (no e) = before.inside y (omega (arith, r.label.rest y e))

  waits : (y : ℕ) → 0 < K' y → Dec (y ≡ v) → 0 < L' y
  waits y h (yes e) = omega (arith, ap L' e, r.label.here, r.more)
  waits y h (no e) = omega (arith, r.label.rest y e, before.waits y (omega (arith, r.key.rest y e)))

  keyed : (y : ℕ) → 0 < K' y → Dec (y ≡ v) → K' y ≡ L' y + psi y
  keyed y h (yes e) = omega (arith, ap K' e, r.key.here, ap L' e, r.label.here, ap psi e)
  keyed y h (no e) =
      let w = r.key.rest y e in
      omega (arith, r.label.rest y e, before.keyed y (omega arith))

  ordered : (a y : ℕ) → Settled L' K' a → 0 < K' y → Dec (y ≡ v) → K' y ≤ L' a + psi a
  ordered a y t h (yes e) =
      omega (
        arith,
        ap K' e,
        r.key.here,
        brings_le r,
        r.busy.latest a (settled_before r a t),
        r.label.rest a (settled_after_other r a t),
      )
  ordered a y t h (no e) =
      let w = r.key.rest y e in
      omega (arith, r.label.rest a (settled_after_other r a t), before.ordered a y (settled_before r a t) (omega arith))

  -- the way of v is now road k
  via_v : (y : ℕ) → y ≡ v → Via N before.rank L' W' K' y
  via_v y e =
      let way : W' y ≡ k = ap W' e ∙ r.way.here in
      let tail : N.roads.tail (W' y) ≡ u = ap N.roads.tail way ∙ r.tail_is in
      record {
        road = omega (arith, r.road);
        here = ap N.roads.head way ∙ r.head_is ∙ sym e;
        from = subst (λ (a : ℕ). Settled L' K' a) (sym tail) (settled_after r u r.busy.settled);
        earlier = λ t. absurd (settled_after_other r y t e);
        exact = (λ i. N.step (way i) (L' (tail i))) ∙ ap (N.step k) (label_u r) ∙ r.brings ∙ sym (ap L' e ∙ r.label.here);
      }

  via_other : (y : ℕ) → y ≢ v → Via N before.rank L W K y → Via N before.rank L' W' K' y
  via_other y e d =
      let way : W' y ≡ W y = r.way.rest y e in
      let tail : N.roads.tail (W' y) ≡ N.roads.tail (W y) = ap N.roads.tail way in
      let kept : L' (N.roads.tail (W y)) ≡ L (N.roads.tail (W y)) = r.label.rest _ (settled_other r _ d.from) in
      record {
        road = omega (arith, way, d.road);
        here = ap N.roads.head way ∙ d.here;
        from = subst (λ (a : ℕ). Settled L' K' a) (sym tail) (settled_after r _ d.from);
        earlier = λ t. omega (arith, ap before.rank tail, d.earlier (settled_before r y t));
        exact = (λ i. N.step (way i) (L' (tail i))) ∙ ap (N.step (W y)) kept ∙ d.exact ∙ sym (r.label.rest y e);
      }

  via : (y : ℕ) → 0 < L' y → y ≢ s → Dec (y ≡ v) → Via N before.rank L' W' K' y
  via y h z (yes e) = via_v y e
  via y h z (no e) = via_other y e (before.via y (omega (arith, r.label.rest y e)) z)

  kept : (j : ℕ) → j < N.roads.count → Settled L K (N.roads.tail j) → (N.roads.tail j ≡ u → k ≤ j) → Dec (j ≡ k) → Kept N L' j
  kept j h t m (no e) =
      omega (
        arith,
        ap (N.step j) (r.label.rest _ (settled_other r _ t)),
        r.busy.relaxed j h t (λ y. omega (arith, m y)),
        label_grows r (N.roads.head j),
      )
  kept j h t m (yes e) =
      let f : N.step j (L' (N.roads.tail j)) ≡ x =
      ap (N.step j) (r.label.rest _ (settled_other r _ t))
      ∙ (λ i. N.step (e i) (L ((ap N.roads.tail e ∙ r.tail_is) i))) ∙ r.brings in
      omega (arith, f, ap L' (ap N.roads.head e ∙ r.head_is), r.label.here)

  pub busy_better : Busy N psi n s l turns u k L' W' K'
  busy_better =
      record {
        state =
            record {
              rank = before.rank;
              rank_le = before.rank_le;
              rank_pos = λ y t. before.rank_pos y (settled_before r y t);
              counted = omega (arith, before.counted, unsettled_after r);
              inside = λ y h. inside y h (ℕ_discrete y v);
              start = r.label.rest s (settled_other r s (settled_source r)) ∙ before.start;
              some = before.some;
              alone = λ y h z. absurd (omega (arith, (settled_after r s (settled_source r)).taken));
              waits = λ y h. waits y h (ℕ_discrete y v);
              keyed = λ y h. keyed y h (ℕ_discrete y v);
              ordered = λ a y t h. ordered a y t h (ℕ_discrete y v);
              via = λ y h z. via y h z (ℕ_discrete y v);
            };
        settled = settled_after r u r.busy.settled;
        latest = λ a t. omega (arith, r.label.rest a (settled_after_other r a t), label_u r, r.busy.latest a (settled_before r a t));
        relaxed = λ j h t m. kept j h (settled_before r _ t) m (ℕ_discrete j k);
      }
