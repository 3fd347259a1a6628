-- What is proved of the rule, the drive and the profile, in document 01's words. The proofs are in proofs/.
use Rattle.std.specs.Prelude.{◌≡◌, true, List, ◌++◌, ℕ, ◌+◌, ◌-◌, ◌≤◌, ◌<◌, min, max, pos, ◌-ℤ◌, None, Option, Some}
use Rattle.std.specs.Int.Signed.{le_z}
use Rattle.battery.specs.Rule.{drivable, left}
use Rattle.battery.specs.Drive.{fresh, drive_all}
use Rattle.battery.specs.Profile.{profile_of, followed_by}
use Rattle.battery.specs.declared.Battery.{Battery}
use Rattle.battery.specs.declared.Road.{Road}
use Rattle.battery.specs.declared.Van.{Van}
use Rattle.battery.specs.declared.Profile.{Profile}

-- b − c is exact where c is no greater than b: nothing is cut off at 0
abbrev pub LeftExact : Type 0
LeftExact =
    (B : Battery) (b : ℕ) (r : Road) → drivable B b r ≡ true → pos (left b r.consumption) ≡ pos b -ℤ r.consumption

-- sum is no greater than need, so that start − sum is exact from need on, and top of P − sum of Q where top of P ≥ need of Q
abbrev pub SumWithinNeed : Type 0
SumWithinNeed =
    (B : Battery) (rs : List Road) (p : Profile) → profile_of B rs ≡ Some p → le_z p.sum (pos p.need) ≡ true

-- start + recovered = arrival + drawn + spilled, for every driven route
abbrev pub Balance : Type 0
Balance =
    (B : Battery) (b : ℕ) (rs : List Road) (v : Van) → drive_all (fresh B b) rs ≡ Some v
    → b + v.recovered ≡ v.charge + v.drawn + v.spilled

-- the profile of a walk P followed by Q is the profile of P followed by that of Q, impassable where 01 says so
abbrev pub Composition : Type 0
Composition =
    (B : Battery) (ps qs : List Road) → profile_of B (ps ++ qs) ≡ followed_by (profile_of B ps) (profile_of B qs)

-- a drive that arrives with the charge a
pub record Arrives (came : Option Van) (a : ℕ) : Type 0 where
  pub van : Van
  pub drives : came ≡ Some van
  pub charge_is : van.charge ≡ a

-- below need the route cannot be driven; from need on the arrival is the smaller of top and start − sum
pub record Agrees (B : Battery) (b : ℕ) (rs : List Road) (p : Profile) : Type 0 where
  pub below : b < p.need → drive_all (fresh B b) rs ≡ None
  pub from : p.need ≤ b → Arrives (drive_all (fresh B b) rs) (min p.top (left b p.sum))

-- for every start from 0 to the battery size the profile's numbers and the drive agree
abbrev pub Agreement : Type 0
Agreement =
    (B : Battery) (b : ℕ) (rs : List Road) (p : Profile) → profile_of B rs ≡ Some p → b ≤ B.size → Agrees B b rs p

-- no start from 0 to the battery size can drive the route
abbrev pub Never : Battery → List Road → Type 0
Never B rs = (b : ℕ) → b ≤ B.size → drive_all (fresh B b) rs ≡ None

-- impassable exactly when no start can drive it
pub record ImpassableExactly (B : Battery) (rs : List Road) : Type 0 where
  pub never : profile_of B rs ≡ None → Never B rs
  pub only : Never B rs → profile_of B rs ≡ None

-- a route that the first van drives, driven by a second one: it arrives with no less, and with more by at most the larger of
-- the two increases
pub record Rises (B B' : Battery) (b b' : ℕ) (rs : List Road) (first : Van) : Type 0 where
  pub second : Van
  pub drives : drive_all (fresh B' b') rs ≡ Some second
  pub no_less : first.charge ≤ second.charge
  pub at_most : second.charge ≤ first.charge + max (B'.size - B.size) (b' - b)

-- the drive of one fixed route is monotone in the battery size and in the start charge
abbrev pub FixedRoute : Type 0
FixedRoute =
    (B B' : Battery) (b b' : ℕ) (rs : List Road) (first : Van) → B.size ≤ B'.size → b ≤ b' → drive_all (fresh B b) rs ≡ Some first
    → Rises B B' b b' rs first
