-- What is proved of the files and of walks, in document 01's words. The proofs are in proofs/.
use Rattle.std.specs.Prelude.{◌≡◌, true, List, ℕ, ◌≤◌, ℤ, pos, Ok}
use Rattle.std.specs.Int.Signed.{le_z}
use Rattle.battery.specs.declared.Battery.{Battery}
use Rattle.network.specs.Check.{records_fault}
use Rattle.network.specs.Files.{Passing}
use Rattle.journeys.specs.Reasons.{Reason}
use Rattle.journeys.specs.SetOff.{Enough, SetOff}
use Rattle.journeys.specs.Walks.{Walk, roads_of, sum_of}
use Rattle.refusals.specs.declared.Refusal.{Refusal}

-- if all roads pass, no closed trip gains energy: its consumptions sum to 0 or more
abbrev pub NoClosedGain : Type 0
NoClosedGain =
    (ns rs : List ℕ) (v : ℕ) (ks : List ℕ) → Passing ns rs → Walk rs v ks v → le_z (pos 0) (sum_of (roads_of rs ks)) ≡ true

-- all roads pass where no record fails
abbrev pub CheckedPassing : Type 0
CheckedPassing = (ns rs : List ℕ) → records_fault ns rs ≡ Ok tt → Passing ns rs

-- a junction has one number
abbrev pub OneNumber : Type 0
OneNumber = (B : Battery) (rs : List ℕ) (v depot : ℕ) (x y : ℤ) → SetOff B rs v depot x → SetOff B rs v depot y → x ≡ y

-- what is enough stays enough with more, up to a full battery
abbrev pub MoreIsEnough : Type 0
MoreIsEnough = (B : Battery) (rs : List ℕ) (v depot b c : ℕ) → Enough B rs v depot b → b ≤ c → c ≤ B.size → Enough B rs v depot c

-- two junctions have one reason at most
abbrev pub OneReason : Type 0
OneReason = (B : Battery) (rs : List ℕ) (v w : ℕ) (r r' : Refusal) → Reason B rs v w r → Reason B rs v w r' → r ≡ r'
