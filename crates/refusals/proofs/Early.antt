-- What a refusal speaks of, by its number; and tests that speak of the input only. Assumes nothing.
use Rattle.std.specs.Prelude.{Err, Ok}
use mathlib.Core.Path.{◌≡◌, sym, ap, ◌∙◌}
use mathlib.Core.Bool.{Bool, true, false, ◌&&◌, ◌||◌, cond}
use Prim.Native.Nat.{ℕ, zero, suc, ◌+◌, ◌<◌}
use native.Mathlib.Omega.{arith}
use lib.Dec.{eqb, leb}
use Rattle.refusals.specs.Order.{Checked, unless, first, first_from}
use Rattle.refusals.specs.Refusals.{number_of}
use Rattle.refusals.specs.declared.Refusal.{Refusal}
use Rattle.refusals.specs.declared.Refusal.TheVariants.{JunctionFile, RoadFile, Battery, Start, NoJunction, ShortList, Ends, Consumption, Potential, MoreCharge, LongRoute, NotRoad, NotHere, TooLow, Impassable, NeverEnough, NotJoined}

-- the input (files, numbers asked, lent lists, records), which is tested before any road is followed; an entry of a given route;
-- that there is no route
pub data Kind : Type 0 where
  input : Kind
  entry : Kind
  no_route : Kind

-- 10, 16 and 17; 12 to 15; all others
abbrev pub kind : ℕ → Kind
kind n = cond (eqb n 10 || (eqb n 16 || eqb n 17)) no_route (cond (leb 12 n && leb n 15) entry input)

-- passed, or refused for the input
pub data Early : Checked → Type 0 where
  passed : Early (Ok tt)
  refused : {r : Refusal} → kind (number_of r) ≡ input → Early (Err r)

pub unless_early : (t : Bool) (r : Refusal) → kind (number_of r) ≡ input → Early (unless t r)
unless_early true r h = passed
unless_early false r h = refused h

pub first_early : {a b : Checked} → Early a → Early b → Early (first a b)
first_early passed q = q
first_early (refused h) q = refused h

pub from_early : (f : ℕ → Checked) → ((k : ℕ) → Early (f k)) → (m k : ℕ) → Early (first_from f m k)
unfolding first_from
from_early f g zero k = passed
from_early f g (suc m) k = first_early (g k) (from_early f g m (k + 1))

-- the kind of a refusal that such tests give
pub early_kind : {x : Checked} {r : Refusal} → Early x → x ≡ Err r → kind (number_of r) ≡ input
early_kind {r} passed e = let z : ◌≡◌ {A = ℕ} 0 1 = cc in absurd (omega arith)
early_kind {r} (refused {r = s} h) e = let p : s ≡ r = cc in ap (λ (x : Refusal). kind (number_of x)) (sym p) ∙ h

-- a refusal's number is not that of a success
pub number_pos : (r : Refusal) → 0 < number_of r
number_pos JunctionFile = omega arith
number_pos RoadFile = omega arith
number_pos Battery = omega arith
number_pos Start = omega arith
number_pos NoJunction = omega arith
number_pos ShortList = omega arith
number_pos (Ends k) = omega arith
number_pos (Consumption k) = omega arith
number_pos (Potential k) = omega arith
number_pos (MoreCharge b) = omega arith
number_pos LongRoute = omega arith
number_pos (NotRoad i) = omega arith
number_pos (NotHere i) = omega arith
number_pos (TooLow i) = omega arith
number_pos (Impassable i) = omega arith
number_pos NeverEnough = omega arith
number_pos NotJoined = omega arith
