-- A profile agrees with the drive from every start b: one road, one route followed by another, and so the roads in turn.
-- Assumes nothing.
use Rattle.std.specs.Prelude.{None, Option, Some, cond, option_and_then}
use mathlib.Core.Path.{◌≡◌, refl, sym, ap, ◌∙◌, subst}
use mathlib.Core.Bool.{Bool, true, false}
use mathlib.Core.List.{List, [], ◌∷◌}
use Prim.Native.Nat.{ℕ, ◌+◌, ◌≤◌, ◌<◌, min}
use native.Mathlib.Omega.{arith}
use borrow.Author.Tests.{leb-true, le-leb}
use lib.Dec.{leb}
use lib.IntN.{pos}
use Rattle.numbers.specs.Signed.{draw, gain}
use Rattle.battery.specs.Rule.{drivable, needs, left}
use Rattle.battery.specs.Drive.{drive, drive_all}
use Rattle.battery.specs.Profile.{no_roads, road_profile, one_road, joined, followed_by, profile_of}
use Rattle.battery.specs.declared.Battery.{Battery}
use Rattle.battery.specs.declared.Road.{Road}
use Rattle.battery.specs.declared.Van.{Van}
use Rattle.battery.specs.declared.Profile.{Profile}
use Rattle.battery.proofs.Rule.{left_is, drivable_is}
use Rattle.battery.proofs.Drive.{Went, Driving, on, low, driving}
use Rattle.battery.proofs.Join.{Keeps, reach_is, left_min, left_twice, road_top, road_keeps}

-- what a profile tells of the drive from b
pub data Tells (b : ℕ) : Option Profile → Option Van → Type 0 where
  arrives : {p : Profile} {w : Van} → p.need ≤ b → w.charge ≡ min p.top (left b p.sum)
      → Tells b (Some p) (Some w)
  below : {p : Profile} → b < p.need → Tells b (Some p) None
  never : Tells b None None

-- ---- one road

road_on : (v w : Van) (r : Road) → v.charge ≤ v.battery.size → Went v r w
    → Tells v.charge (one_road v.battery r) (Some w)
unfolding one_road
road_on v w r h g =
    let B = v.battery in
    let e = g.charge_is ∙ sym (road_top B.size v.charge r.consumption g.enough h) in
    simp (drivable_is B B.size r, le-leb (needs B r) B.size (omega arith)) (arrives g.enough e)

road_low : (B : Battery) (b : ℕ) (r : Road) → b < needs B r → Tells b (one_road B r) None
unfolding one_road
road_low B b r h = go (drivable B B.size r)
  where
    go : (t : Bool) → Tells b (cond t (Some (road_profile B r)) None) None
    go true = below h
    go false = never

-- ---- one route followed by another

followed_low : {b : ℕ} {x : Option Profile} (y : Option Profile) → Tells b x None → Tells b (followed_by x y) None
unfolding followed_by
followed_low {b} (Some q) (below {p} l) = go (leb q.need p.top)
  where
    go : (t : Bool) → Tells b (cond t (Some (joined p q)) None) None
    go true = below {p = joined p q} (omega arith)
    go false = never
followed_low None (below l) = never
followed_low y never = never

-- p is driven from b, and then q from where it arrives
module _ (b : ℕ) (p q : Profile) (w : Van) (sum_le : draw p.sum ≤ b + gain p.sum) (enough : p.need ≤ b)
    (charge_is : w.charge ≡ min p.top (left b p.sum)) where
  then_low : w.charge < q.need → Tells b (followed_by (Some p) (Some q)) None
  unfolding followed_by
  then_low l = go (leb q.need p.top) refl
    where
      go : (t : Bool) → leb q.need p.top ≡ t
          → Tells b (cond t (Some (joined p q)) None) None
      go true e =
          let h = leb-true q.need p.top e in
          let n = reach_is q.need p.sum in
          let k = left_is b p.sum in
          below {p = joined p q} (omega arith)
      go false e = never

  then_charge : {a : ℕ} → a ≡ min q.top (left w.charge q.sum)
      → a ≡ min (joined p q).top (left b (joined p q).sum)
  then_charge e =
      let f = ap (λ (x : ℕ). left x q.sum) charge_is in
      let g = left_min p.top (left b p.sum) q.sum in
      let h = left_twice b p.sum q.sum sum_le in
      omega arith

  then_on : {u : Van} → q.need ≤ w.charge → u.charge ≡ min q.top (left w.charge q.sum)
      → Tells b (followed_by (Some p) (Some q)) (Some u)
  unfolding followed_by
  then_on {u} h e =
      let n = reach_is q.need p.sum in
      let k = left_is b p.sum in
      simp (le-leb q.need p.top (omega arith)) (arrives {p = joined p q} (omega arith) (then_charge e))

followed_on : (B : Battery) {b : ℕ} {x y : Option Profile} {w : Van} {d : Option Van}
    → Keeps B x → Tells b x (Some w) → Tells w.charge y d → Tells b (followed_by x y) d
unfolding followed_by
followed_on B {b} {w} P (arrives {p} h e) (arrives {p = q} k f) = then_on b p q w (omega arith) h e k f
followed_on B {b} {w} P (arrives {p} h e) (below {p = q} l) = then_low b p q w (omega arith) h e l
followed_on B P (arrives h e) never = never

-- ---- the roads in turn

pub tells : (v : Van) (rs : List Road) → v.charge ≤ v.battery.size
    → Tells v.charge (profile_of v.battery rs) (drive_all v rs)
unfolding profile_of drive_all
tells v [] h =
    let e = left_is v.charge (pos 0) in
    arrives {p = no_roads v.battery} {w = v} (omega arith) (omega arith)
tells v (r ∷ rs) h = go (drive v r) (driving v r) (λ w k. tells w rs k)
  where
    go : (d : Option Van) → Driving v r d
        → ((w : Van) → w.charge ≤ w.battery.size → Tells w.charge (profile_of w.battery rs) (drive_all w rs))
        → Tells v.charge (followed_by (one_road v.battery r) (profile_of v.battery rs)) (option_and_then (λ w. drive_all w rs) d)
    go (Some w) (on g) f =
        let m = ap (λ (B : Battery). B.size) g.battery_is in
        let t = subst (λ (B : Battery). Tells w.charge (profile_of B rs) (drive_all w rs)) g.battery_is (f w (omega arith)) in
        followed_on v.battery (road_keeps v.battery r) (road_on v w r h g) t
    go None (low l) f = followed_low (profile_of v.battery rs) (road_low v.battery v.charge r l)
