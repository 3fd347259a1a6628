-- What a search has found at its end: the best label of every junction, or of the one where it was stopped. Assumes nothing.
use mathlib.Core.Path.{◌≡◌, refl, ap}
use mathlib.Core.List.{List}
use mathlib.Core.Logic.{◌⊎◌, inl, inr, ◌≢◌}
use Prim.Native.Nat.{ℕ, ◌+◌, ◌/◌, ◌≤◌, ◌<◌}
use native.Mathlib.Decide.{dec_lt, ℕ_discrete}
use native.Mathlib.Omega.{arith}
use Rattle.lists.specs.Lists.{entry}
use Rattle.frontier.specs.Frontier.{places}
use Rattle.frontier.specs.Queues.{Empty}
use Rattle.walks.proofs.Bounds.{closed_bounds, early_stop}
use Rattle.walks.specs.Claims.{Front}
use Rattle.walks.specs.Label.{Net, Laws, after, Best}
use Rattle.walks.specs.Walk.{Walk}
use Rattle.search.specs.Searches.{Explored}
use Rattle.search.specs.State.{Settled, Kept, Busy, Idle}
use Rattle.search.specs.Steps.{waiting}
use Rattle.search.specs.Trails.{Route}
use Rattle.search.specs.declared.Lists.{Lists}
use Rattle.search.specs.declared.Trip.{Trip}
use Rattle.search.proofs.Counting.{settled?, unsettled_waits}
use Rattle.search.proofs.Packing.{no_key}
use Rattle.search.proofs.Tracing.{traced}

best_of : {N : Net} {W : ℕ → ℕ} {n s l v x : ℕ} → (0 < x → Route N W n s l v x)
    → ((ks : List ℕ) → Walk N.roads s ks v → after N ks l ≤ x) → Best N s l v x
best_of r m = record { reached = λ h. record { by = (r h).by; walk = (r h).walk; brings = (r h).brings }; most = m }

module _ {N : Net} {psi : ℕ → ℕ} (laws : Laws N psi) {n s l turns : ℕ} {L W K : ℕ → ℕ} where
  -- t was settled last
  module _ {t : ℕ} (b : Busy N psi n s l turns t N.roads.count L W K) where
    Before : ℕ → Type 0
    Before v = Settled L K v × (v ≢ t)

    before? : (v : ℕ) → Dec (Settled L K v) → Dec (v ≡ t) → Dec (Before v)
    unfolding Before
    before? v (yes c) (yes e) = no (λ d. d.1 e)
    before? v (yes c) (no e) = yes (c, e)
    before? v (no c) e = no (λ d. c d.0)

    below : (v : ℕ) → ¬ Before v → 0 < L v → Dec (v ≡ t) → L v + psi v ≤ L t + psi t
    unfolding Before
    below v d h (yes e) = omega (arith, ap L e, ap psi e)
    below v d h (no e) =
        let k = unsettled_waits L K v h (λ c. d (c, e)) in
        omega (arith, b.state.keyed v k, b.state.ordered t v b.settled k)

    front : Front N psi Before L t
    unfolding Before
    front =
        record {
          decided = λ v. before? v (settled? L K v) (ℕ_discrete v t);
          relaxed = λ k h d. b.relaxed k h d.0 (λ e. absurd (d.1 e));
          below = λ v d h. below v d h (ℕ_discrete v t);
          open_t = λ d. d.1 refl;
        }

    most_t : (ks : List ℕ) → Walk N.roads s ks t → after N ks l ≤ L t
    most_t ks w = early_stop N psi Before L t laws front s l ks (omega (arith, b.state.start)) w

    pub route_t : Route N W n s l t (L t)
    route_t = traced N psi n s l turns L W K b.state t b.settled

    pub best_t : Best N s l t (L t)
    best_t = best_of (λ _. route_t) most_t

  -- none waits any longer
  module _ (i : Idle N psi n s l turns L W K) (none : (v : ℕ) → K v ≡ 0) where
    closed : (k : ℕ) → k < N.roads.count → Dec (0 < L (N.roads.tail k)) → Kept N L k
    closed k h (yes p) = i.relaxed k h (record { labelled = p; taken = none _ })
    closed k h (no p) =
        let z : L (N.roads.tail k) ≡ 0 = omega arith in
        omega (arith, ap (N.step k) z, laws.none k)

    most_all : (v : ℕ) (ks : List ℕ) → Walk N.roads s ks v → after N ks l ≤ L v
    most_all v ks w =
        closed_bounds N psi L laws (λ k h. closed k h (dec_lt 0 (L (N.roads.tail k)))) s l v ks (omega (arith, i.state.start)) w

    pub route_all : (v : ℕ) → 0 < L v → Route N W n s l v (L v)
    route_all v h = traced N psi n s l turns L W K i.state v (record { labelled = h; taken = none v })

    pub best_all : (v : ℕ) → Best N s l v (L v)
    best_all v = best_of (route_all v) (most_all v)

-- ---- over the lists

module _ {N : Net} {psi : ℕ → ℕ} {n turns : ℕ} {trip : Trip} (l : Lists) (laws : Laws N psi) where
  -- the target was settled last
  pub explored_target : Busy N psi n trip.source trip.label turns trip.target N.roads.count (entry l.labels) (entry l.ways) (waiting l.queue)
      → Explored N n trip l
  explored_target b =
      record {
        best = best b.settled.labelled;
        route = λ _. route_t laws b;
        emptied = λ z. absurd (omega (arith, b.settled.labelled));
      }
    where
      best : 0 < entry l.labels trip.target → (v : ℕ) → (v ≡ trip.target) ⊎ (entry l.labels trip.target ≡ 0)
          → Best N trip.source trip.label v (entry l.labels v)
      best h v (inl q) = rw q (best_t laws b)
      best h v (inr z) = absurd (omega arith)

  -- no key is left
  pub explored_all : Idle N psi n trip.source trip.label turns (entry l.labels) (entry l.ways) (waiting l.queue) → Empty l.queue
      → Explored N n trip l
  explored_all i z =
      let none : (v : ℕ) → waiting l.queue v ≡ 0 = λ v. ap (λ (y : ℕ). y / places) (no_key z v) in
      record { best = λ v _. best_all laws i none v; route = route_all laws i none trip.target; emptied = λ _. z }
