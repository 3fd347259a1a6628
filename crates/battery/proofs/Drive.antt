-- Laws of one road driven, and of the roads in turn. Assumes nothing.
use Rattle.std.specs.Prelude.{None, Option, Some, cond, option_and_then}
use mathlib.Core.Path.{◌≡◌, refl, sym, ap, ◌∙◌, subst}
use mathlib.Core.Bool.{Bool, true, false}
use mathlib.Core.List.{List, [], ◌∷◌, ◌++◌}
use Prim.Native.Nat.{ℕ, ◌+◌, ◌-◌, ◌≤◌, ◌<◌, min}
use native.Mathlib.Omega.{arith}
use borrow.Author.Tests.{leb-true, leb-false, le-leb, lt-leb}
use lib.Dec.{leb}
use Rattle.numbers.specs.Signed.{draw, gain}
use Rattle.battery.specs.Rule.{drivable, needs}
use Rattle.battery.specs.Drive.{driven, drive, drive_all}
use Rattle.battery.specs.declared.Road.{Road}
use Rattle.battery.specs.declared.Van.{Van}
use Rattle.battery.proofs.Rule.{left_is, drivable_is}

-- w comes of v by the road r, in naturals
pub record Went (v : Van) (r : Road) (w : Van) : Type 0 where
  pub enough : needs v.battery r ≤ v.charge
  pub battery_is : w.battery ≡ v.battery
  pub charge_is : w.charge ≡ min (v.charge - draw r.consumption + gain r.consumption) v.battery.size
  pub drawn_is : w.drawn ≡ v.drawn + draw r.consumption
  pub recovered_is : w.recovered ≡ v.recovered + gain r.consumption
  pub spilled_is : w.spilled ≡ v.spilled + (v.charge - draw r.consumption + gain r.consumption - v.battery.size)

-- what a drive of one road comes to
pub data Driving (v : Van) (r : Road) : Option Van → Type 0 where
  on : {w : Van} → Went v r w → Driving v r (Some w)
  low : v.charge < needs v.battery r → Driving v r None

driven_went : (v : Van) (r : Road) → needs v.battery r ≤ v.charge → Went v r (driven v r)
unfolding driven
driven_went v r h =
    let e = left_is v.charge r.consumption in
    record {
      enough = h;
      battery_is = refl;
      charge_is = omega arith;
      drawn_is = refl;
      recovered_is = refl;
      spilled_is = omega arith;
    }

by_test : (v : Van) (r : Road) (t : Bool) → leb (needs v.battery r) v.charge ≡ t
    → Driving v r (cond t (Some (driven v r)) None)
by_test v r true e = on (driven_went v r (leb-true _ _ e))
by_test v r false e = low (leb-false _ _ e)

pub driving : (v : Van) (r : Road) → Driving v r (drive v r)
unfolding drive
driving v r = by_test v r (drivable v.battery v.charge r) (sym (drivable_is v.battery v.charge r))

pub went : (v : Van) (r : Road) {w : Van} → drive v r ≡ Some w → Went v r w
went v r {w} e = go (subst (Driving v r) e (driving v r))
  where
    go : Driving v r (Some w) → Went v r w
    go (on g) = g

pub goes : (v : Van) (r : Road) → needs v.battery r ≤ v.charge → drive v r ≡ Some (driven v r)
unfolding drive
goes v r h = simp (drivable_is v.battery v.charge r, le-leb _ _ h)

pub stays : (v : Van) (r : Road) → v.charge < needs v.battery r → drive v r ≡ None
unfolding drive
stays v r h = simp (drivable_is v.battery v.charge r, lt-leb _ _ h)

-- ---- the roads in turn

-- the roads of one list and then of another
pub drive_all_append : (v : Van) (rs qs : List Road) → drive_all v (rs ++ qs) ≡ option_and_then (λ w. drive_all w qs) (drive_all v rs)
unfolding drive_all
drive_all_append v [] qs = refl
drive_all_append v (r ∷ rs) qs = go (drive v r) (λ w. drive_all_append w rs qs)
  where
    go : (d : Option Van) → ((w : Van) → drive_all w (rs ++ qs) ≡ option_and_then (λ u. drive_all u qs) (drive_all w rs))
        → option_and_then (λ w. drive_all w (rs ++ qs)) d ≡ option_and_then (λ u. drive_all u qs) (option_and_then (λ w. drive_all w rs) d)
    go (Some w) k = k w
    go None k = refl

-- one road more
pub drive_all_snoc : (v : Van) (rs : List Road) (r : Road) {w : Van} → drive_all v rs ≡ Some w → drive_all v (rs ++ (r ∷ [])) ≡ drive w r
unfolding drive_all
drive_all_snoc v rs r {w} e =
    drive_all_append v rs (r ∷ []) ∙ ap (λ (d : Option Van). option_and_then (λ u. drive_all u (r ∷ [])) d) e ∙ last (drive w r)
  where
    last : (d : Option Van) → option_and_then (λ u. Some u) d ≡ d
    last (Some u) = refl
    last None = refl

-- a property that every road keeps holds at the end
pub along : (P : Van → Type 0) → ((v w : Van) (r : Road) → Went v r w → P v → P w)
    → (v : Van) (rs : List Road) {w : Van} → drive_all v rs ≡ Some w → P v → P w
unfolding drive_all
along P k v [] {w} e p = let q : v ≡ w = cc in subst P q p
along P k v (r ∷ rs) {w} e p = go (drive v r) (driving v r) e (λ u h g. along P k u rs h (k v u r g p))
  where
    go : (d : Option Van) → Driving v r d → option_and_then (λ u. drive_all u rs) d ≡ Some w
        → ((u : Van) → drive_all u rs ≡ Some w → Went v r u → P w) → P w
    go (Some u) (on g) h f = f u h g
    go None (low l) h f = let z : ◌≡◌ {A = ℕ} 0 1 = cc in absurd (omega arith)
