-- The charge to set off with (request [1]). rs is the road file, B the battery.
use Rattle.std.specs.Prelude.{ℕ, ◌≤◌, List, ℤ, pos, negsuc}
use Rattle.battery.specs.declared.Battery.{Battery}
use Rattle.journeys.specs.Walks.{Walk, Feasible}

-- the charge b, up to a full battery, from which some walk from v to the depot is feasible
pub record Enough (B : Battery) (rs : List ℕ) (v depot b : ℕ) : Type 0 where
  pub to_full : b ≤ B.size
  pub by : List ℕ
  pub walk : Walk rs v by depot
  pub feasible : Feasible B b rs by

-- the number of junction v: the least such charge, and −1 where no charge up to a full battery does
pub data SetOff (B : Battery) (rs : List ℕ) (v depot : ℕ) : ℤ → Type 0 where
  least : (b : ℕ) → Enough B rs v depot b → ((b' : ℕ) → Enough B rs v depot b' → b ≤ b') → SetOff B rs v depot (pos b)
  never : ((b : ℕ) → Enough B rs v depot b → ⊥) → SetOff B rs v depot (negsuc 0)
