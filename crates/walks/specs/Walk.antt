-- Walks over roads that are named by numbers.
use Rattle.std.specs.Prelude.{◌≡◌, List, [], ◌∷◌, ◌≢◌, ℕ, zero, suc, ◌≤◌, ◌<◌, length}

-- roads 0 to count − 1, each from its tail to its head
pub record Roads : Type 0 where
  pub count : ℕ
  pub tail : ℕ → ℕ
  pub head : ℕ → ℕ

-- a walk from junction v to junction w by the roads ks
pub data Walk (R : Roads) : ℕ → List ℕ → ℕ → Type 0 where
  stay : {v : ℕ} → Walk R v [] v
  go : {v w : ℕ} {ks : List ℕ} (k : ℕ) → k < R.count → R.tail k ≡ v → Walk R (R.head k) ks w → Walk R v (k ∷ ks) w

-- the junction after the first i roads of ks, from v
abbrev pub stop_at : Roads → ℕ → List ℕ → ℕ → ℕ
stop_at R v [] i = v
stop_at R v (k ∷ ks) zero = v
stop_at R v (k ∷ ks) (suc i) = stop_at R (R.head k) ks i

-- ks visits no junction twice
pub record Once (R : Roads) (v : ℕ) (ks : List ℕ) : Type 0 where
  pub apart : (i j : ℕ) → i < j → j ≤ length ks → stop_at R v ks i ≢ stop_at R v ks j
