-- Laws of a trail: it comes to its source, there is one, and it grows. Assumes nothing.
use mathlib.Core.Path.{◌≡◌, refl}
use mathlib.Core.List.{List, ◌∷◌}
use mathlib.Core.Logic.{◌≢◌}
use Prim.Native.Nat.{ℕ, ◌≤◌, ◌<◌}
use native.Mathlib.Omega.{arith}
use lib.ListN.{length}
use Rattle.walks.specs.Walk.{Roads}
use Rattle.search.specs.Trails.{Trail, here, back}

-- a trail that has not come to the source
pub record Further (R : Roads) (W : ℕ → ℕ) (n s v : ℕ) (es ks : List ℕ) : Type 0 where
  pub within : v < n
  pub road : W v < R.count
  pub rest : Trail R W n s (R.tail (W v)) (W v ∷ es) ks

pub further : {R : Roads} {W : ℕ → ℕ} {n s v : ℕ} {es ks : List ℕ} → Trail R W n s v es ks → v ≢ s → Further R W n s v es ks
further here e = absurd (e refl)
further (back ne within road rest) e = record { within = within; road = road; rest = rest }

pub at_source : {R : Roads} {W : ℕ → ℕ} {n s v : ℕ} {es ks : List ℕ} → Trail R W n s v es ks → v ≡ s → es ≡ ks
at_source here e = refl
at_source (back ne within road rest) e = absurd (ne e)

pub trail_le : {R : Roads} {W : ℕ → ℕ} {n s v : ℕ} {es ks : List ℕ} → Trail R W n s v es ks → length es ≤ length ks
trail_le here = omega arith
trail_le (back ne within road rest) = omega (arith, trail_le rest)

-- there is one trail
pub trail_one : {R : Roads} {W : ℕ → ℕ} {n s v : ℕ} {es ks js : List ℕ} → Trail R W n s v es ks → Trail R W n s v es js → ks ≡ js
trail_one here t = at_source t refl
trail_one (back ne within road rest) t = trail_one rest (further t ne).rest

pub trail_wider : {R : Roads} {W : ℕ → ℕ} {n m s v : ℕ} {es ks : List ℕ} → n ≤ m → Trail R W n s v es ks → Trail R W m s v es ks
trail_wider h here = here
trail_wider h (back ne within road rest) = back ne (omega arith) road (trail_wider h rest)
