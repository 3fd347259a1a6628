-- One road more after a route, as the code computes it, and that its sums fit. Assumes nothing.
use Rattle.std.specs.Prelude.{None, Some, cond}
use mathlib.Core.Path.{◌≡◌, refl, ap, ◌∙◌}
use mathlib.Core.Bool.{Bool, true, false}
use Prim.Native.Nat.{ℕ, zero, suc, ◌+◌, ◌-◌, ◌≤◌, ◌<◌, ◌^◌, min, max}
use native.Mathlib.Decide.{dec_le}
use native.Mathlib.Omega.{arith}
use borrow.Author.Tests.{le-leb, lt-leb, lt-ltb}
use lib.IntN.{ℤ, pos, negsuc, nat_abs, ◌+ℤ◌, +ℤ_comm}
use Rattle.std.specs.Int.{int_max}
use lib.Signed.{mag}
use mir.Facts.{to_z_pos, to_z-of_z}
use mir.Syntax.{w32, w64}
use mir.Val.{SFits, to_z, of_z}
use Rattle.numbers.specs.Signed.{draw, gain}
use Rattle.numbers.proofs.Diff.{mag_le, mag_plus}
use Rattle.numbers.proofs.Bits.{back64, wide_back}
use Rattle.battery.specs.Rule.{most_consumption, drivable, needs}
use Rattle.battery.specs.Profile.{road_profile, one_road, joined, followed_by}
use Rattle.battery.specs.Ready.{Ranged, Extends}
use Rattle.battery.specs.declared.Battery.{Battery}
use Rattle.battery.specs.declared.Road.{Road}
use Rattle.battery.specs.declared.Profile.{Profile}
use Rattle.battery.proofs.Rule.{drivable_is}
use Rattle.battery.proofs.Join.{road_top}

abbrev pub next : Battery → Profile → Road → Profile
next B p r =
    record {
      need = max p.need (draw (p.sum +ℤ pos (draw r.consumption)));
      sum = p.sum +ℤ r.consumption;
      top = min (p.top - draw r.consumption + gain r.consumption) B.size;
    }

pub next_low : (B : Battery) (p : Profile) (r : Road) → p.top < needs B r
    → followed_by (Some p) (one_road B r) ≡ None
unfolding followed_by one_road
next_low B p r h = go (drivable B B.size r)
  where
    go : (t : Bool) → followed_by (Some p) (cond t (Some (road_profile B r)) None) ≡ None
    go true = simp (lt-leb _ _ h)
    go false = refl

next_joined : (B : Battery) (p : Profile) (r : Road) → p.top ≤ B.size → needs B r ≤ p.top
    → joined p (road_profile B r) ≡ next B p r
next_joined B p r h k =
    let c = r.consumption in
    let e = road_top B.size p.top c k h in
    λ i. record { need = max p.need (draw (+ℤ_comm (pos (draw c)) p.sum i)); sum = p.sum +ℤ c; top = e i }

pub next_on : (B : Battery) (p : Profile) (r : Road) → p.top ≤ B.size → needs B r ≤ p.top
    → followed_by (Some p) (one_road B r) ≡ Some (next B p r)
unfolding followed_by one_road
next_on B p r h k =
    simp (drivable_is B B.size r, le-leb (needs B r) B.size (omega arith), le-leb (needs B r) p.top k)
    (ap Some (next_joined B p r h k))

-- the sum of a route that goes on
pub next_sum : (B : Battery) (p : Profile) (r : Road) {q : Profile} → p.top ≤ B.size
    → followed_by (Some p) (one_road B r) ≡ Some q → q.sum ≡ p.sum +ℤ r.consumption
next_sum B p r {q} h e = go (dec_le (needs B r) p.top)
  where
    go : Dec (needs B r ≤ p.top) → q.sum ≡ p.sum +ℤ r.consumption
    go (yes k) = let f : q ≡ next B p r = cc (next_on B p r h k) in ap (λ (x : Profile). x.sum) f
    go (no k) = let z : ◌≡◌ {A = ℕ} 0 1 = cc (next_low B p r (omega arith)) in absurd (omega arith)

-- the larger of 0 and z, as the code takes it
larger_0 : (z : ℤ) → nat_abs (int_max z (pos 0)) ≡ draw z
larger_0 (pos zero) = refl
larger_0 (pos (suc n)) = simp (lt-ltb 0 (suc n) (omega arith))
larger_0 (negsuc n) = refl

larger_back : (z : ℤ) {x : ℤ} → x ≡ int_max z (pos 0) → mag x < 2 ^ 63 → nat_abs (to_z w64 (of_z w64 x)) ≡ draw z
larger_back z e h = ap nat_abs (back64 (omega arith) ∙ e) ∙ larger_0 z

-- ---- what fits, by the bounds of Ranged and Extends

pub used_fits : {r : Road} → Ranged r → SFits w32 r.consumption
used_fits {r} g =
    let h = mag_le r.consumption most_consumption g.draw_le g.gain_le in
    record { sfits = omega arith }

-- a consumption in its range is what its bits read back as
pub used_back : {r : Road} → Ranged r → to_z w32 (of_z w32 r.consumption) ≡ r.consumption
used_back g = to_z-of_z (used_fits g)

module _ {B : Battery} {p : Profile} {r : Road} (E : Extends B p r) where
  sum_mag : mag p.sum < 2 ^ 62 + 1
  sum_mag = let h = mag_le p.sum (2 ^ 62) (omega arith) (omega arith) in omega arith

  pub sum_back : to_z w64 (of_z w64 p.sum) ≡ p.sum
  sum_back = let h = sum_mag in back64 (omega arith)

  pub sum_fits : SFits w64 (p.sum +ℤ r.consumption)
  sum_fits =
      let h = mag_plus (2 ^ 62 + 1) (2 ^ 31) p.sum r.consumption sum_mag (used_fits E.ranged).sfits in
      record { sfits = omega arith }

  pub reach_fits : SFits w64 (p.sum +ℤ pos (draw r.consumption))
  reach_fits =
      let h = mag_plus (2 ^ 62 + 1) (2 ^ 31) p.sum (pos (draw r.consumption)) sum_mag (omega arith) in
      record { sfits = omega arith }

  -- what the code reads back: the sum of both, and the reach
  pub sum_read : to_z w64 (of_z w64 (to_z w64 (of_z w64 p.sum) +ℤ to_z w64 (of_z w64 (to_z w32 (of_z w32 r.consumption)))))
      ≡ p.sum +ℤ r.consumption
  sum_read =
      ap (λ (z : ℤ). to_z w64 (of_z w64 z)) (λ i. sum_back i +ℤ wide_back (used_fits E.ranged) i) ∙ to_z-of_z sum_fits

  pub reach_read : {n : ℕ} → n ≡ draw r.consumption
      → to_z w64 (of_z w64 (to_z w64 (of_z w64 p.sum) +ℤ to_z w64 n)) ≡ p.sum +ℤ pos (draw r.consumption)
  reach_read {n} e =
      let d = E.ranged.draw_le in
      let k = to_z_pos w64 {n = n} (omega arith) ∙ ap pos e in
      ap (λ (z : ℤ). to_z w64 (of_z w64 z)) (λ i. sum_back i +ℤ k i) ∙ to_z-of_z reach_fits

  -- the larger of 0 and the reach
  pub reach_is : {n : ℕ} {x : ℤ} → n ≡ draw r.consumption
      → x ≡ int_max (to_z w64 (of_z w64 (to_z w64 (of_z w64 p.sum) +ℤ to_z w64 n))) (pos 0) → mag x < 2 ^ 63
      → nat_abs (to_z w64 (of_z w64 x)) ≡ draw (p.sum +ℤ pos (draw r.consumption))
  reach_is {n} e f h = larger_back (to_z w64 (of_z w64 (to_z w64 (of_z w64 p.sum) +ℤ to_z w64 n))) f h ∙ ap draw (reach_read e)
