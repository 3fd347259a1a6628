-- Two junctions have one reason at most why there is no route. Assumes nothing.
use mathlib.Core.Path.{refl, ap}
use mathlib.Core.List.{List}
use Prim.Native.Nat.{ℕ}
use lib.IntN.{pos, negsuc}
use Rattle.battery.specs.declared.Battery.{Battery}
use Rattle.numbers.specs.Signed.{draw}
use Rattle.journeys.specs.Claims.{OneReason}
use Rattle.journeys.specs.Reasons.{Joined, more_charge, never_enough, not_joined}
use Rattle.journeys.specs.SetOff.{SetOff, Enough, least, never}
use Rattle.refusals.specs.declared.Refusal.TheVariants.{MoreCharge}
use Rattle.journeys.proofs.SetOff.{one_number}

pub enough_joined : {B : Battery} {rs : List ℕ} {v w b : ℕ} → Enough B rs v w b → Joined rs v w
enough_joined e = record { by = e.by; walk = e.walk }

-- a number that is not −1 is a charge
charge_joined : {B : Battery} {rs : List ℕ} {v w b : ℕ} → SetOff B rs v w (pos b) → Joined rs v w
charge_joined (least b e m) = enough_joined e

not_never : {X : Type 0} {B : Battery} {rs : List ℕ} {v w b : ℕ} → SetOff B rs v w (pos b) → SetOff B rs v w (negsuc 0) → X
not_never (least b e m) (never n) = absurd (n b e)

pub one_reason : OneReason
one_reason B rs v w r r' (more_charge s) (more_charge t) = ap MoreCharge (ap draw (one_number B rs v w _ _ s t))
one_reason B rs v w r r' (more_charge s) (never_enough t j) = not_never s t
one_reason B rs v w r r' (more_charge s) (not_joined n) = absurd (n (charge_joined s))
one_reason B rs v w r r' (never_enough s j) (more_charge t) = not_never t s
one_reason B rs v w r r' (never_enough s j) (never_enough t k) = refl
one_reason B rs v w r r' (never_enough s j) (not_joined n) = absurd (n j)
one_reason B rs v w r r' (not_joined n) (more_charge t) = absurd (n (charge_joined t))
one_reason B rs v w r r' (not_joined n) (never_enough t k) = absurd (n k)
one_reason B rs v w r r' (not_joined n) (not_joined m) = refl
