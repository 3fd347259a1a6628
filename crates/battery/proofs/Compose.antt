-- The profile of two routes driven one after the other is the one profile followed by the other. Assumes nothing.
use Rattle.std.specs.Prelude.{None, Option, Some, cond}
use mathlib.Core.Path.{◌≡◌, refl, sym, ap, ◌∙◌}
use mathlib.Core.Bool.{Bool, true, false}
use mathlib.Core.List.{List, [], ◌∷◌, ◌++◌}
use Prim.Native.Nat.{ℕ, ◌+◌, ◌≤◌, max}
use native.Mathlib.Omega.{arith}
use borrow.Author.Tests.{leb-true, leb-false, le-leb, lt-leb}
use lib.Dec.{leb}
use lib.IntN.{ℤ, pos, ◌+ℤ◌, +ℤ_assoc, +ℤ_idl, +ℤ_idr}
use Rattle.numbers.specs.Signed.{draw, gain}
use Rattle.numbers.proofs.Diff.{diff_self, diff_pos, diff_add, draw_of, leb_same}
use Rattle.battery.specs.Claims.{Composition}
use Rattle.battery.specs.Rule.{left}
use Rattle.battery.specs.Profile.{no_roads, one_road, joined, followed_by, profile_of}
use Rattle.battery.specs.Ready.{Kept}
use Rattle.battery.specs.declared.Battery.{Battery}
use Rattle.battery.specs.declared.Road.{Road}
use Rattle.battery.specs.declared.Profile.{Profile}
use Rattle.battery.proofs.Rule.{left_is}
use Rattle.battery.proofs.Join.{Keeps, reach_is, left_min, left_twice, road_keeps, profile_keeps}

-- ---- three routes, joined either way

reach_max : (a b : ℕ) (x : ℤ) → draw (pos (max a b) +ℤ x) ≡ max (draw (pos a +ℤ x)) (draw (pos b +ℤ x))
reach_max a b x =
    let e = reach_is a x in
    let f = reach_is b x in
    let g = reach_is (max a b) x in
    omega arith

reach_twice : (a b : ℕ) (x y : ℤ)
    → max (draw (pos a +ℤ x)) (draw (pos (draw (pos b +ℤ y)) +ℤ x))
    ≡ max (draw (pos a +ℤ x)) (draw (pos b +ℤ (x +ℤ y)))
reach_twice a b x y =
    let e = reach_is a x in
    let f = reach_is b y in
    let g = reach_is (draw (pos b +ℤ y)) x in
    let h = draw_of (diff_add (diff_pos b) (diff_add (diff_self x) (diff_self y))) in
    omega arith

module _ (p q r : Profile) (Q : draw q.sum ≤ q.need + gain q.sum) (pq : q.need ≤ p.top) where
  top_assoc : (joined (joined p q) r).top ≡ (joined p (joined q r)).top
  top_assoc =
      let e = left_min q.top (left p.top q.sum) r.sum in
      let f = left_twice p.top q.sum r.sum (omega arith) in
      omega arith

  need_assoc : (joined (joined p q) r).need ≡ (joined p (joined q r)).need
  need_assoc =
      let e = reach_max q.need (draw (pos r.need +ℤ q.sum)) p.sum in
      let f = reach_twice q.need r.need p.sum q.sum in
      omega arith

  joined_assoc : joined (joined p q) r ≡ joined p (joined q r)
  joined_assoc = λ i. record { need = need_assoc i; sum = +ℤ_assoc p.sum q.sum r.sum i; top = top_assoc i }

followed_none : (x : Option Profile) → followed_by x None ≡ None
unfolding followed_by
followed_none (Some p) = refl
followed_none None = refl

-- by the two tests: P before Q, and Q before R
by_tests : (p q r : Profile) → draw q.sum ≤ q.need + gain q.sum → (t u : Bool)
    → leb q.need p.top ≡ t → leb r.need q.top ≡ u
    → followed_by (cond t (Some (joined p q)) None) (Some r)
    ≡ followed_by (Some p) (cond u (Some (joined q r)) None)
unfolding followed_by
by_tests p q r Q true true e f =
    let h = leb-true q.need p.top e in
    let k = leb-true r.need q.top f in
    let n = reach_is r.need q.sum in
    let l = left_is p.top q.sum in
    let s = leb_same r.need (joined p q).top (joined q r).need p.top (λ a. omega arith) (λ a. omega arith) in
    let j = joined_assoc p q r Q h in
    λ i. cond (s i) (Some (j i)) None
by_tests p q r Q true false e f =
    let k = leb-false r.need q.top f in
    simp (lt-leb r.need (joined p q).top (omega arith))
by_tests p q r Q false true e f =
    let k = leb-false q.need p.top e in
    simp (lt-leb (joined q r).need p.top (omega arith))
by_tests p q r Q false false e f = refl

pub followed_assoc : (B : Battery) (x y z : Option Profile) → Keeps B y
    → followed_by (followed_by x y) z ≡ followed_by x (followed_by y z)
unfolding followed_by
followed_assoc B (Some p) (Some q) (Some r) Q =
    by_tests p q r Q.sum_need (leb q.need p.top) (leb r.need q.top) refl refl
followed_assoc B (Some p) (Some q) None Q = followed_none (followed_by (Some p) (Some q))
followed_assoc B (Some p) None z Q = refl
followed_assoc B None y z Q = refl

-- ---- no roads before a route

joined_none : {B : Battery} {q : Profile} → Kept B q → joined (no_roads B) q ≡ q
joined_none {B} {q} Q =
    let n = reach_is q.need (pos 0) in
    let l = left_is B.size q.sum in
    let a : (joined (no_roads B) q).need ≡ q.need = omega arith in
    let b : (joined (no_roads B) q).top ≡ q.top = omega arith in
    λ i. record { need = a i; sum = +ℤ_idl q.sum i; top = b i }

followed_first : (B : Battery) (y : Option Profile) → Keeps B y → followed_by (Some (no_roads B)) y ≡ y
unfolding followed_by
followed_first B (Some q) Q = simp (le-leb q.need B.size Q.need_le) (ap Some (joined_none Q))
followed_first B None Q = refl

-- ---- two routes

pub compose : Composition
unfolding profile_of
compose B [] qs = sym (followed_first B (profile_of B qs) (profile_keeps B qs))
compose B (r ∷ ps) qs =
    ap (followed_by (one_road B r)) (compose B ps qs)
    ∙ sym (followed_assoc B (one_road B r) (profile_of B ps) (profile_of B qs) (profile_keeps B ps))

-- ---- one road more

followed_last : (B : Battery) (x : Option Profile) → Keeps B x → followed_by x (Some (no_roads B)) ≡ x
unfolding followed_by
followed_last B (Some p) P =
    let n = reach_is 0 p.sum in
    let l = left_is p.top (pos 0) in
    let a : (joined p (no_roads B)).need ≡ p.need = omega arith in
    let b : (joined p (no_roads B)).top ≡ p.top = omega arith in
    simp (le-leb 0 p.top (omega arith)) (λ i. Some (record { need = a i; sum = +ℤ_idr p.sum i; top = b i }))
followed_last B None P = refl

pub compose_one : (B : Battery) (rs : List Road) (r : Road)
    → profile_of B (rs ++ (r ∷ [])) ≡ followed_by (profile_of B rs) (one_road B r)
unfolding profile_of
compose_one B rs r =
    compose B rs (r ∷ []) ∙ ap (followed_by (profile_of B rs)) (followed_last B (one_road B r) (road_keeps B r))
