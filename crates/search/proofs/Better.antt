-- A road of u, the junction settled last, brings its head v a larger label: v is not settled, and those that are stay so.
-- Assumes nothing.
use mathlib.Core.Path.{◌≡◌, sym, ap, ◌∙◌, subst}
use mathlib.Core.Logic.{◌≢◌}
use Prim.Native.Nat.{ℕ, suc, ◌+◌, ◌≤◌, ◌<◌}
use native.Mathlib.Decide.{ℕ_discrete}
use native.Mathlib.Omega.{arith}
use Rattle.lists.proofs.Zeros.{zeros_same}
use Rattle.lists.specs.Lists.{Put}
use Rattle.walks.specs.Label.{Net, Laws}
use Rattle.search.specs.State.{Settled, tally, unsettled, Busy}
use Rattle.search.proofs.Counting.{settled?, unsettled_waits, tally_open}

-- v takes the label x that road k brings, with the road as its way and with its key
pub record Betters (N : Net) (psi : ℕ → ℕ) (n s l turns u k v x : ℕ) (L W K L' W' K' : ℕ → ℕ) : Type 0 where
  pub laws : Laws N psi
  pub busy : Busy N psi n s l turns u (suc k) L W K
  pub road : k < N.roads.count
  pub tail_is : N.roads.tail k ≡ u
  pub head_is : N.roads.head k ≡ v
  pub head_in : v < n
  pub brings : N.step k (L u) ≡ x
  pub more : L v < x
  pub label : Put L L' v x
  pub way : Put W W' v k
  pub key : Put K K' v (x + psi v)

module _ {N : Net} {psi : ℕ → ℕ} {n s l turns u k v x : ℕ} {L W K L' W' K' : ℕ → ℕ}
    (r : Betters N psi n s l turns u k v x L W K L' W' K') where
  -- what the road brings keeps the order of keys
  pub brings_le : x + psi v ≤ L u + psi u
  brings_le =
      omega (
        arith,
        r.laws.no_gain k (L u) r.road (omega (arith, r.brings, r.more)),
        r.brings,
        ap psi r.tail_is,
        ap psi r.head_is,
      )

  pub settled_other : (y : ℕ) → Settled L K y → y ≢ v
  settled_other y t e = omega (arith, r.busy.latest y t, brings_le, r.more, ap L e, ap psi e)

  -- v waits
  pub waits_v : 0 < K' v
  waits_v = omega (arith, r.key.here, r.more)

  pub settled_after_other : (y : ℕ) → Settled L' K' y → y ≢ v
  settled_after_other y t e = omega (arith, ap K' e, waits_v, t.taken)

  -- the settled junctions are the same
  pub settled_after : (y : ℕ) → Settled L K y → Settled L' K' y
  settled_after y t =
      let e = settled_other y t in
      record { labelled = omega (arith, r.label.rest y e, t.labelled); taken = r.key.rest y e ∙ t.taken }

  pub settled_before : (y : ℕ) → Settled L' K' y → Settled L K y
  settled_before y t =
      let e = settled_after_other y t in
      record { labelled = omega (arith, r.label.rest y e, t.labelled); taken = sym (r.key.rest y e) ∙ t.taken }

  -- the source is settled, since u is
  pub settled_source : Settled L K s
  settled_source = go (settled? L K s)
    where
      go : Dec (Settled L K s) → Settled L K s
      go (yes t) = t
      go (no t) =
          let w = unsettled_waits L K s (omega (arith, r.busy.state.start, r.busy.state.some)) t in
          subst (λ (y : ℕ). Settled L K y) (r.busy.state.alone u r.busy.settled.labelled w) r.busy.settled

  pub label_u : L' u ≡ L u
  label_u = r.label.rest u (settled_other u r.busy.settled)

  -- the label of v only grew, and no settled label changed
  pub label_grows : (y : ℕ) → L y ≤ L' y
  label_grows y = go (ℕ_discrete y v)
    where
      go : Dec (y ≡ v) → L y ≤ L' y
      go (yes e) = omega (arith, ap L e, ap L' e, r.label.here, r.more)
      go (no e) = omega (arith, r.label.rest y e)

  pub unsettled_after : unsettled L' K' n ≡ unsettled L K n
  unsettled_after = zeros_same _ _ (λ y. same y (ℕ_discrete y v)) n
    where
      same : (y : ℕ) → Dec (y ≡ v) → tally (L' y) (K' y) ≡ tally (L y) (K y)
      same y (no e) = λ i. tally (r.label.rest y e i) (r.key.rest y e i)
      same y (yes e) =
          tally_open (L' y) (K' y) (λ _. omega (arith, ap K' e, waits_v))
          ∙ sym (tally_open (L y) (K y) (λ h. unsettled_waits L K y h (λ t. settled_other y t e)))
