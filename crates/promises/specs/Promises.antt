-- What each entry promises: the numbers that it may give back. A refusal is given exactly where it is the first fault, a
-- success exactly where there is none.
use Rattle.std.specs.Prelude.{◌≡◌, List, ◌++◌, ℕ, ◌≤◌, ◌<◌, ℤ, pos, length, drop, get_or, Err, Ok, Some}
use Rattle.battery.specs.Drive.{drive_all}
use Rattle.battery.specs.Profile.{profile_of}
use Rattle.battery.specs.declared.Battery.{Battery}
use Rattle.battery.specs.declared.Profile.{Profile}
use Rattle.battery.specs.declared.Van.{Van}
use Rattle.network.specs.Check.{check_fault}
use Rattle.network.specs.Files.{junctions}
use Rattle.journeys.specs.Reasons.{Reason}
use Rattle.journeys.specs.SetOff.{SetOff}
use Rattle.journeys.specs.Walks.{Walk, Once, roads_of}
use Rattle.refusals.specs.declared.Refusal.{Refusal}
use Rattle.promises.specs.Given.{check_numbers, plan_numbers, drive_numbers, profile_numbers, routed}
use Rattle.promises.specs.Order.{battery_of, van_of, plan_van, plan_fault, drive_fault, profile_fault, set_off_fault}
use Rattle.promises.specs.declared.CheckNumbers.{CheckNumbers}
use Rattle.promises.specs.declared.PlanNumbers.{PlanNumbers}
use Rattle.promises.specs.declared.PlanQuestion.{PlanQuestion}
use Rattle.promises.specs.declared.DriveNumbers.{DriveNumbers}
use Rattle.promises.specs.declared.ProfileNumbers.{ProfileNumbers}
use Rattle.promises.specs.declared.DriveQuestion.{DriveQuestion}
use Rattle.promises.specs.declared.ProfileQuestion.{ProfileQuestion}
use Rattle.promises.specs.declared.SetOffQuestion.{SetOffQuestion}

-- network check: success or a refusal
pub data Checks (ns rs : List ℕ) : CheckNumbers → Type 0 where
  refused : (r : Refusal) → check_fault ns rs ≡ Err r → Checks ns rs (check_numbers (Err r))
  sound : check_fault ns rs ≡ Ok tt → Checks ns rs (check_numbers (Ok tt))

-- a feasible walk over the road records from source to target: by the roads ks, with the van v at its end
pub record Arrives (rs : List ℕ) (q : PlanQuestion) (ks : List ℕ) (v : Van) : Type 0 where
  pub walk : Walk rs q.source ks q.target
  pub drives : drive_all (plan_van q) (roads_of rs ks) ≡ Some v

-- no walk of any length arrives with more than the charge a
abbrev pub Most : List ℕ → PlanQuestion → ℕ → Type 0
Most rs q a = (ks : List ℕ) (v : Van) → Arrives rs q ks v → v.charge ≤ a

-- no feasible walk from source to target
abbrev pub NoWalk : List ℕ → PlanQuestion → Type 0
NoWalk rs q = (ks : List ℕ) (v : Van) → Arrives rs q ks v → ⊥

-- best route: what is given back, and the lent list after it. Where there is no feasible walk the refusal is its reason: 10, 16
-- or 17. On success the list's first entries are the route and the remaining entries stay; a refusal leaves the list as it was
pub data Plans (ns rs : List ℕ) (q : PlanQuestion) (list : List ℕ) : PlanNumbers → List ℕ → Type 0 where
  refused : (r : Refusal) → plan_fault ns rs q (length list) ≡ Err r → Plans ns rs q list (plan_numbers (Err r)) list
  none : (r : Refusal) → plan_fault ns rs q (length list) ≡ Ok tt → NoWalk rs q
      → Reason (battery_of q.battery) rs q.source q.target r
      → Plans ns rs q list (plan_numbers (Err r)) list
  route : (ks : List ℕ) (v : Van) → plan_fault ns rs q (length list) ≡ Ok tt
      → Arrives rs q ks v → Once rs q.source ks → Most rs q v.charge
      → Plans ns rs q list (plan_numbers (routed (length ks) v)) (ks ++ drop (length ks) list)

-- drive: the arrival and the three totals of the roads driven by the battery rule
pub data Drives (ns rs : List ℕ) (q : DriveQuestion) (es : List ℕ) : DriveNumbers → Type 0 where
  refused : (r : Refusal) → drive_fault ns rs q es ≡ Err r → Drives ns rs q es (drive_numbers (Err r))
  arrives : (v : Van) → drive_fault ns rs q es ≡ Ok tt → drive_all (van_of q) (roads_of rs es) ≡ Some v
      → Drives ns rs q es (drive_numbers (Ok v))

-- profile: need, sum and top of the route
pub data Profiles (ns rs : List ℕ) (q : ProfileQuestion) (es : List ℕ) : ProfileNumbers → Type 0 where
  refused : (r : Refusal) → profile_fault ns rs q es ≡ Err r → Profiles ns rs q es (profile_numbers (Err r))
  known : (p : Profile) → profile_fault ns rs q es ≡ Ok tt → profile_of (battery_of q.battery) (roads_of rs es) ≡ Some p
      → Profiles ns rs q es (profile_numbers (Ok p))

-- entry i of a list of signed numbers
abbrev pub number_at : List ℤ → ℕ → ℤ
number_at xs i = get_or xs i (pos 0)

-- the list xs after it, with the battery B: the number of each junction, and the entries past the junctions stay
pub record Numbered (ns rs : List ℕ) (B : Battery) (depot : ℕ) (list xs : List ℤ) : Type 0 where
  pub long : length xs ≡ length list
  pub numbers : (v : ℕ) → v < junctions ns → SetOff B rs v depot (number_at xs v)
  pub past : (i : ℕ) → junctions ns ≤ i → number_at xs i ≡ number_at list i

-- the charges to set off with (request [1]): what is given back, and the lent list after it. A refusal leaves the list as it was
pub data SetsOff (ns rs : List ℕ) (q : SetOffQuestion) (list : List ℤ) : CheckNumbers → List ℤ → Type 0 where
  refused : (r : Refusal) → set_off_fault ns rs q (length list) ≡ Err r → SetsOff ns rs q list (check_numbers (Err r)) list
  known : {xs : List ℤ} → set_off_fault ns rs q (length list) ≡ Ok tt
      → Numbered ns rs (battery_of q.battery) q.depot list xs
      → SetsOff ns rs q list (check_numbers (Ok tt)) xs
