-- Laws of one route followed by another, in naturals, and what every profile of a route keeps. Assumes nothing.
use Rattle.std.specs.Prelude.{None, Option, Some, cond}
use mathlib.Core.Path.{◌≡◌, refl, sym, subst}
use mathlib.Core.Bool.{Bool, true, false}
use mathlib.Core.List.{List, [], ◌∷◌}
use Prim.Native.Nat.{ℕ, ◌+◌, ◌-◌, ◌≤◌, min}
use native.Mathlib.Omega.{arith}
use borrow.Author.Tests.{leb-true}
use lib.Dec.{leb}
use lib.IntN.{ℤ, pos, ◌+ℤ◌}
use Rattle.numbers.specs.Signed.{draw, gain}
use Rattle.numbers.proofs.Diff.{diff_self, diff_pos, diff_add, diff_minus, draw_of, draw_add, gain_add}
use Rattle.battery.specs.Rule.{drivable, needs, left}
use Rattle.battery.specs.Profile.{no_roads, road_profile, one_road, joined, followed_by, profile_of}
use Rattle.battery.specs.Ready.{Kept}
use Rattle.battery.specs.declared.Battery.{Battery}
use Rattle.battery.specs.declared.Road.{Road}
use Rattle.battery.specs.declared.Profile.{Profile}
use Rattle.battery.proofs.Rule.{left_is, drivable_is}

-- a route that has a profile keeps Kept
abbrev pub Keeps : Battery → Option Profile → Type 0
Keeps B (Some p) = Kept B p
Keeps B None = Unit {0}

-- ---- sums and what is left, as naturals

-- the least start of which n is left after roads that come to s
pub reach_is : (n : ℕ) (s : ℤ) → draw (pos n +ℤ s) ≡ n + draw s - gain s
reach_is n s = let e = draw_of (diff_add (diff_pos n) (diff_self s)) in omega arith

pub left_twice : (b : ℕ) (x y : ℤ) → draw x ≤ b + gain x → left (left b x) y ≡ left b (x +ℤ y)
left_twice b x y h =
    let e = left_is b x in
    let f = left_is (left b x) y in
    let g = draw_of (diff_minus (diff_pos b) (diff_add (diff_self x) (diff_self y))) in
    omega arith

pub left_min : (a b : ℕ) (x : ℤ) → left (min a b) x ≡ min (left a x) (left b x)
left_min a b x =
    let e = left_is a x in
    let f = left_is b x in
    let g = left_is (min a b) x in
    omega arith

-- ---- no roads, and one road

pub none_kept : (B : Battery) → Kept B (no_roads B)
none_kept B = omega arith

passed_kept : (B : Battery) (r : Road) → needs B r ≤ B.size → Kept B (road_profile B r)
passed_kept B r h = let e = left_is B.size r.consumption in omega arith

pub road_keeps : (B : Battery) (r : Road) → Keeps B (one_road B r)
unfolding one_road
road_keeps B r = go (drivable B B.size r) (sym (drivable_is B B.size r))
  where
    go : (t : Bool) → leb (needs B r) B.size ≡ t
        → Keeps B (cond t (Some (road_profile B r)) None)
    go true e = passed_kept B r (leb-true _ _ e)
    go false e = tt

road_min : (M b d g : ℕ) → d ≤ b → b ≤ M → min (min M (M + g - d)) (b + g - d) ≡ min (b - d + g) M
road_min M b d g h k = omega arith

-- the arrival from b by a road's profile is the charge at the road's head
pub road_top : (M b : ℕ) (c : ℤ) → draw c ≤ b → b ≤ M → min (min M (left M c)) (left b c) ≡ min (b - draw c + gain c) M
road_top M b c h k = rw (left_is M c, left_is b c) (road_min M b (draw c) (gain c) h k)

-- ---- one route followed by another

pub joined_kept : {B : Battery} {p q : Profile} → Kept B p → Kept B q → q.need ≤ p.top → Kept B (joined p q)
joined_kept {p} {q} P Q h =
    let n = reach_is q.need p.sum in
    let d = draw_add p.sum q.sum in
    let g = gain_add p.sum q.sum in
    let t = left_is p.top q.sum in
    omega arith

followed_keeps : (B : Battery) (x y : Option Profile) → Keeps B x → Keeps B y → Keeps B (followed_by x y)
unfolding followed_by
followed_keeps B (Some p) (Some q) P Q = go (leb q.need p.top) refl
  where
    go : (t : Bool) → leb q.need p.top ≡ t → Keeps B (cond t (Some (joined p q)) None)
    go true e = joined_kept P Q (leb-true _ _ e)
    go false e = tt
followed_keeps B (Some p) None P Q = tt
followed_keeps B None y P Q = tt

pub profile_keeps : (B : Battery) (rs : List Road) → Keeps B (profile_of B rs)
unfolding profile_of
profile_keeps B [] = none_kept B
profile_keeps B (r ∷ rs) = followed_keeps B (one_road B r) (profile_of B rs) (road_keeps B r) (profile_keeps B rs)

pub profile_kept : (B : Battery) (rs : List Road) {p : Profile} → profile_of B rs ≡ Some p → Kept B p
profile_kept B rs e = subst (Keeps B) e (profile_keeps B rs)

-- a route that goes on by one road
pub extended_kept : (B : Battery) (p : Profile) (r : Road) {q : Profile} → Kept B p → followed_by (Some p) (one_road B r) ≡ Some q → Kept B q
extended_kept B p r k e = subst (Keeps B) e (followed_keeps B (Some p) (one_road B r) k (road_keeps B r))
