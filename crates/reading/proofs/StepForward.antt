-- Forward, the step and the number of a junction in naturals, where their laws are arithmetic. Assumes nothing.
use mathlib.Core.Path.{◌≡◌, refl, sym, ◌∙◌}
use mathlib.Core.Bool.{Bool, true, false}
use mathlib.Core.List.{List}
use Prim.Native.Nat.{ℕ, zero, suc, ◌+◌, ◌-◌, ◌*◌, ◌≤◌, ◌<◌, ◌^◌, min}
use native.Mathlib.Omega.{arith}
use borrow.Author.Tests.{leb-true, leb-false, ltb-true}
use lib.Dec.{leb, ltb}
use lib.IntN.{ℤ, pos, negsuc}
use Rattle.numbers.proofs.Diff.{diff_self, diff_pos, diff_minus, draw_of}
use Rattle.numbers.specs.Bytes.{u32_at, signed32, signed_pick}
use Rattle.numbers.specs.Signed.{draw, gain}
use Rattle.battery.specs.declared.Battery.{Battery}
use Rattle.battery.proofs.Rule.{left_is, drivable_is}
use Rattle.battery.specs.Rule.{drivable, charge_after}
use Rattle.battery.specs.declared.Road.{Road}
use Rattle.network.proofs.Passes.{passes_draws}
use Rattle.network.specs.Files.{junction_bytes, potential, passes}
use Rattle.reading.specs.Reading.{label_if, step_forward, most_potential, psi_forward}
use Rattle.reading.proofs.Capped.{Capped}

-- ---- the step

pub one_sided : (c : ℤ) → 0 < draw c → gain c ≡ 0
one_sided (pos n) h = refl
one_sided (negsuc n) h = absurd (omega arith)

pub forward_capped : (B : Battery) (r : Road) → Capped (step_forward B r) (gain r.consumption) (draw r.consumption) (B.size + 1)
forward_capped B r = record { none = refl; some = some }
  where
    go : (b : ℕ) (t : Bool) → t ≡ leb (draw r.consumption) b
        → label_if t (charge_after B b r) ≡ min (suc b + gain r.consumption - draw r.consumption) (B.size + 1)
    go b true e = omega (arith, left_is b r.consumption, leb-true (draw r.consumption) b (sym e))
    go b false e =
        let l = leb-false (draw r.consumption) b (sym e) in
        omega (arith, one_sided r.consumption (omega arith))

    some : (l : ℕ) → 0 < l → step_forward B r l ≡ min (l + gain r.consumption - draw r.consumption) (B.size + 1)
    some zero h = absurd (omega arith)
    some (suc b) h = go b (drivable B b r) (drivable_is B b r)

-- ---- the number of a junction. Potentials have 32 bits

pub psi_forward_is : (p : ℤ) → psi_forward p ≡ most_potential + gain p - draw p
psi_forward_is p = let e = draw_of (diff_minus (diff_pos most_potential) (diff_self p)) in omega arith

signed_draw : (n : ℕ) → draw (signed32 n) ≤ most_potential
signed_draw n = go (ltb n (2 ^ 31)) refl
  where
    go : (t : Bool) → ltb n (2 ^ 31) ≡ t → draw (signed_pick t n) ≤ most_potential
    go true e = omega (arith, ltb-true n (2 ^ 31) e)
    go false e = omega arith

pub potential_le : (ns : List ℕ) (v : ℕ) → draw (potential ns v) ≤ most_potential
potential_le ns v = signed_draw (u32_at ns (v * junction_bytes))

-- a road that passes gains no more than the numbers fall
pub forward_falls : (c p q : ℤ) → passes c p q ≡ true → draw p ≤ most_potential → draw q ≤ most_potential
    → psi_forward q + gain c ≤ psi_forward p + draw c
forward_falls c p q e dp dq =
    omega (
      arith,
      leb-true (gain c + draw p + gain q) (draw c + gain p + draw q) (sym (passes_draws c p q) ∙ e),
      psi_forward_is p,
      psi_forward_is q,
    )
