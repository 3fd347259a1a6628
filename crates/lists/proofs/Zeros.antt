-- How many values of a function are 0. Assumes nothing.
use mathlib.Core.Path.{◌≡◌, refl, ap, ◌∙◌}
use Prim.Native.Nat.{ℕ, zero, suc, ◌≤◌, ◌<◌}
use native.Mathlib.Decide.{ℕ_discrete}
use native.Mathlib.Omega.{arith}
use Rattle.lists.specs.Lists.{Same, Put, is_zero, zeros}

pub zeros_all : (f : ℕ → ℕ) → ((v : ℕ) → f v ≡ 0) → (n : ℕ) → zeros f n ≡ n
zeros_all f z zero = refl
zeros_all f z (suc n) = omega (arith, ap is_zero (z n), zeros_all f z n)

pub zeros_same : (f f' : ℕ → ℕ) → Same f f' → (n : ℕ) → zeros f' n ≡ zeros f n
zeros_same f f' s zero = refl
zeros_same f f' s (suc n) = omega (arith, ap is_zero (s n), zeros_same f f' s n)

-- above 0 nothing is counted
some_counts : (x : ℕ) → 0 < x → is_zero x ≡ 0
some_counts zero h = absurd (omega arith)
some_counts (suc x) h = refl

-- what was 0 at u is no longer
pub zeros_put : {f f' : ℕ → ℕ} {u x : ℕ} → Put f f' u x → f u ≡ 0 → 0 < x → (n : ℕ) → u < n → suc (zeros f' n) ≡ zeros f n
zeros_put p z h zero l = absurd (omega arith)
zeros_put {f} {f'} {u} {x} p z h (suc n) l = go (ℕ_discrete n u) (λ m. zeros_put p z h n m)
  where
    below : (m : ℕ) → m ≤ u → zeros f' m ≡ zeros f m
    below zero b = refl
    below (suc m) b = omega (arith, ap is_zero (p.rest m (λ e. absurd (omega arith))), below m (omega arith))

    go : Dec (n ≡ u) → (u < n → suc (zeros f' n) ≡ zeros f n) → suc (zeros f' (suc n)) ≡ zeros f (suc n)
    go (yes e) ih =
        let was : is_zero (f n) ≡ 1 = ap is_zero (ap f e ∙ z) in
        let now : is_zero (f' n) ≡ 0 = ap is_zero (ap f' e ∙ p.here) ∙ some_counts x h in
        omega (arith, below n (omega arith))
    go (no e) ih = omega (arith, ap is_zero (p.rest n e), ih (omega arith))
