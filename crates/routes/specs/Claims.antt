-- What is proved of the faults of a given route. The proofs are in proofs/.
use Rattle.std.specs.Prelude.{◌≡◌, List, ℕ, Ok, Some}
use Rattle.battery.specs.Drive.{fresh}
use Rattle.battery.specs.Profile.{profile_of}
use Rattle.battery.specs.declared.Battery.{Battery}
use Rattle.battery.specs.declared.Profile.{Profile}
use Rattle.journeys.specs.Walks.{Walk, roads_of, Feasible}
use Rattle.routes.specs.Places.{drive_faults, profile_faults}

-- the route is a walk from source
pub record Walks (rs : List ℕ) (source : ℕ) (es : List ℕ) : Type 0 where
  pub target : ℕ
  pub walk : Walk rs source es target

-- the route has a profile
pub record Passes (B : Battery) (rs es : List ℕ) : Type 0 where
  pub profile : Profile
  pub passable : profile_of B (roads_of rs es) ≡ Some profile

-- a drive has no fault exactly when its route is a walk from source and feasible
pub record DrivenExactly (B : Battery) (b : ℕ) (rs : List ℕ) (source : ℕ) (es : List ℕ) : Type 0 where
  pub walks : drive_faults rs source es (fresh B b) ≡ Ok tt → Walks rs source es
  pub feasible : drive_faults rs source es (fresh B b) ≡ Ok tt → Feasible B b rs es
  pub only : Walks rs source es → Feasible B b rs es → drive_faults rs source es (fresh B b) ≡ Ok tt

-- a profile has no fault exactly when its route is a walk from source and passable
pub record ProfiledExactly (B : Battery) (rs : List ℕ) (source : ℕ) (es : List ℕ) : Type 0 where
  pub walks : profile_faults rs source es B ≡ Ok tt → Walks rs source es
  pub passes : profile_faults rs source es B ≡ Ok tt → Passes B rs es
  pub only : Walks rs source es → Passes B rs es → profile_faults rs source es B ≡ Ok tt
