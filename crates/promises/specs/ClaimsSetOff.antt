-- What is proved of the charges to set off with. The proofs are in proofs/.
use Rattle.std.specs.Prelude.{◌≡◌, true, List, ◌⊎◌, ℕ, ◌-◌, leb, ℤ, pos, negsuc, length}
use Rattle.std.specs.Int.Signed.{lt_z}
use Rattle.network.specs.Files.{junctions, is_junction}
use Rattle.promises.specs.Claims.{NoRoute}
use Rattle.promises.specs.Order.{is_start}
use Rattle.promises.specs.declared.CheckNumbers.{CheckNumbers}
use Rattle.promises.specs.declared.PlanNumbers.{PlanNumbers}
use Rattle.promises.specs.declared.PlanQuestion.{PlanQuestion}
use Rattle.promises.specs.Promises.{Plans, SetsOff, number_at}
use Rattle.promises.specs.declared.SetOffQuestion.{SetOffQuestion}

-- one outcome: any two that the promise allows on the same input are equal, lists too
abbrev pub OneSetOff : Type 0
OneSetOff =
    (ns rs : List ℕ) (q : SetOffQuestion) (list : List ℤ) (a b : CheckNumbers) (xs ys : List ℤ)
    → SetsOff ns rs q list a xs → SetsOff ns rs q list b ys → (a ≡ b) × (xs ≡ ys)

-- the depot itself has 0
abbrev pub DepotHasZero : Type 0
DepotHasZero =
    (ns rs : List ℕ) (q : SetOffQuestion) (list : List ℤ) (a : CheckNumbers) (xs : List ℤ)
    → SetsOff ns rs q list a xs → a.number ≡ 0 → number_at xs q.depot ≡ pos 0

-- a start below the number z, or any start where z is −1
abbrev pub Short : ℤ → ℤ → Type 0
Short start z = (lt_z start z ≡ true) ⊎ (z ≡ negsuc 0)

-- no route exactly where the start is short; of its three reasons 10 where the number is a charge, which is its place, and 16 or
-- 17 where it is −1
pub record NoRouteBelow (start z : ℤ) (b : PlanNumbers) : Type 0 where
  pub only : NoRoute b.number → Short start z
  pub given : Short start z → NoRoute b.number
  pub ten : b.number ≡ 10 → z ≡ pos b.place
  pub never : (b.number ≡ 16) ⊎ (b.number ≡ 17) → z ≡ negsuc 0

-- best route is refused for no route exactly below it, or always where it is −1: with the same files and battery size, from a
-- junction to the depot, with a start in range and room for a route
abbrev pub NoRouteExactlyBelow : Type 0
NoRouteExactlyBelow =
    (ns rs : List ℕ) (p : SetOffQuestion) (list : List ℤ) (a : CheckNumbers) (xs : List ℤ)
    (q : PlanQuestion) (route : List ℕ) (b : PlanNumbers) (ys : List ℕ)
    → SetsOff ns rs p list a xs → a.number ≡ 0 → Plans ns rs q route b ys
    → q.battery ≡ p.battery → q.target ≡ p.depot → is_start q.battery q.start ≡ true
    → is_junction ns q.source ≡ true → leb (junctions ns - 1) (length route) ≡ true
    → NoRouteBelow q.start (number_at xs q.source) b
