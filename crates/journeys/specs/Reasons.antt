-- Why there is no route (request [2]): 10, 16 and 17. rs is the road file, B the battery.
use Rattle.std.specs.Prelude.{List, ℕ, pos, negsuc}
use Rattle.battery.specs.declared.Battery.{Battery}
use Rattle.journeys.specs.SetOff.{SetOff}
use Rattle.journeys.specs.Walks.{Walk}
use Rattle.refusals.specs.declared.Refusal.{Refusal}
use Rattle.refusals.specs.declared.Refusal.TheVariants.{MoreCharge, NeverEnough, NotJoined}

-- a chain of roads joins v to w: it keeps to the roads' directions, and what they take does not matter
pub record Joined (rs : List ℕ) (v w : ℕ) : Type 0 where
  pub by : List ℕ
  pub walk : Walk rs v by w

-- 10: more charge would help, and b is the least. 16: no charge up to a full battery does, and a chain of roads joins v to w.
-- 17: none does
pub data Reason (B : Battery) (rs : List ℕ) (v w : ℕ) : Refusal → Type 0 where
  more_charge : {b : ℕ} → SetOff B rs v w (pos b) → Reason B rs v w (MoreCharge b)
  never_enough : SetOff B rs v w (negsuc 0) → Joined rs v w → Reason B rs v w NeverEnough
  not_joined : (Joined rs v w → ⊥) → Reason B rs v w NotJoined
