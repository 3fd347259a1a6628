-- Which junctions are settled, and how many are not. Assumes nothing.
use mathlib.Core.Path.{◌≡◌, refl}
use Prim.Native.Nat.{ℕ, zero, suc, ◌<◌}
use native.Mathlib.Decide.{dec_lt, ℕ_discrete}
use native.Mathlib.Omega.{arith}
use Rattle.lists.proofs.Zeros.{zeros_all}
use Rattle.search.specs.State.{Settled, tally, unsettled}

pub settled? : (L K : ℕ → ℕ) (v : ℕ) → Dec (Settled L K v)
settled? L K v = go (dec_lt 0 (L v)) (ℕ_discrete (K v) 0)
  where
    go : Dec (0 < L v) → Dec (K v ≡ 0) → Dec (Settled L K v)
    go (yes p) (yes q) = yes (record { labelled = p; taken = q })
    go (yes p) (no q) = no (λ s. q s.taken)
    go (no p) q = no (λ s. p s.labelled)

-- a junction with a label that is not settled waits
pub unsettled_waits : (L K : ℕ → ℕ) (v : ℕ) → 0 < L v → (Settled L K v → ⊥) → 0 < K v
unsettled_waits L K v h t = go (ℕ_discrete (K v) 0)
  where
    go : Dec (K v ≡ 0) → 0 < K v
    go (yes z) = absurd (t (record { labelled = h; taken = z }))
    go (no z) = omega arith

pub tally_settled : (l k : ℕ) → 0 < l → k ≡ 0 → tally l k ≡ 1
tally_settled zero k p q = absurd (omega arith)
tally_settled (suc l) zero p q = refl
tally_settled (suc l) (suc k) p q = absurd (omega arith)

-- a junction without a label, or one that waits
pub tally_open : (l k : ℕ) → (0 < l → 0 < k) → tally l k ≡ 0
tally_open zero k p = refl
tally_open (suc l) zero p = absurd (omega (arith, p (omega arith)))
tally_open (suc l) (suc k) p = refl

pub unsettled_all : (L K : ℕ → ℕ) → ((v : ℕ) → 0 < L v → 0 < K v) → (n : ℕ) → unsettled L K n ≡ n
unsettled_all L K waits n = zeros_all _ (λ v. tally_open (L v) (K v) (waits v)) n
