-- The state while the roads of u, settled last, are relaxed one after another: what changes no label. Assumes nothing.
use mathlib.Core.Path.{◌≡◌, sym}
use Prim.Native.Nat.{ℕ, suc, ◌≤◌, ◌<◌}
use native.Mathlib.Decide.{dec_lt, ℕ_discrete}
use native.Mathlib.Omega.{arith}
use Rattle.lists.specs.Lists.{Same}
use Rattle.walks.specs.Label.{Net}
use Rattle.search.specs.Chains.{Link}
use Rattle.search.specs.State.{Settled, Kept, Busy, Idle}

-- the same functions, one for the other
pub busy_same : {N : Net} {psi : ℕ → ℕ} {n s l turns u p : ℕ} {L W K L' W' K' : ℕ → ℕ} → Same L L' → Same W W' → Same K K'
    → Busy N psi n s l turns u p L W K → Busy N psi n s l turns u p L' W' K'
busy_same {L = L} {W} {K} {L'} {W'} {K'} a b c d =
    let f : ◌≡◌ {A = ℕ → ℕ} L L' = λ i v. sym (a v) i in
    let g : ◌≡◌ {A = ℕ → ℕ} W W' = λ i v. sym (b v) i in
    let h : ◌≡◌ {A = ℕ → ℕ} K K' = λ i v. sym (c v) i in
    rw (← f, ← g, ← h) d

module _ {N : Net} {psi : ℕ → ℕ} {n s l turns u : ℕ} {L W K : ℕ → ℕ} where
  -- road k brings its head no more than the label there
  pub busy_pass : {k : ℕ} → Busy N psi n s l turns u (suc k) L W K → N.roads.tail k ≡ u → N.step k (L u) ≤ L (N.roads.head k)
      → Busy N psi n s l turns u k L W K
  busy_pass {k} b here q =
      record { state = b.state; settled = b.settled; latest = b.latest; relaxed = λ j h t m. kept j h t m (ℕ_discrete j k) }
    where
      kept : (j : ℕ) → j < N.roads.count → Settled L K (N.roads.tail j) → (N.roads.tail j ≡ u → k ≤ j) → Dec (j ≡ k) → Kept N L j
      kept j h t m (yes e) = rw (e, here) q
      kept j h t m (no e) = b.relaxed j h t (λ y. omega (arith, m y))

  -- the next road of the chain: those between are entered elsewhere, so they count as relaxed
  pub busy_skip : {p q : ℕ} → Link N.roads u q p → Busy N psi n s l turns u p L W K → Busy N psi n s l turns u q L W K
  busy_skip {p} {q} k b =
      record {
        state = b.state;
        settled = b.settled;
        latest = b.latest;
        relaxed = λ j h t m. b.relaxed j h t (λ e. from j (m e) e (dec_lt j p));
      }
    where
      from : (j : ℕ) → q ≤ j → N.roads.tail j ≡ u → Dec (j < p) → p ≤ j
      from j a e (yes h) = absurd (k.gap j a h e)
      from j a e (no h) = omega arith

  -- all roads of u are relaxed
  pub busy_idle : Busy N psi n s l turns u 0 L W K → Idle N psi n s l turns L W K
  busy_idle b = record { state = b.state; relaxed = λ k h t. b.relaxed k h t (λ _. omega arith) }
