-- Backward, the step and the number of a junction in naturals, where their laws are arithmetic. Assumes nothing.
use mathlib.Core.Path.{◌≡◌, refl, sym, ◌∙◌}
use mathlib.Core.Bool.{Bool, true, false, ◌&&◌}
use mathlib.Core.List.{List}
use Prim.Native.Nat.{ℕ, zero, suc, ◌+◌, ◌-◌, ◌*◌, ◌≤◌, ◌<◌, ◌^◌, min}
use native.Mathlib.Omega.{arith}
use borrow.Author.Tests.{leb-true, leb-false, ltb-false}
use lib.Dec.{leb, ltb}
use lib.IntN.{ℤ}
use Rattle.numbers.proofs.Diff.{diff_self, diff_minus, draw_of}
use Rattle.numbers.specs.Bytes.{u32_at, signed32, signed_pick}
use Rattle.numbers.specs.Signed.{draw, gain}
use Rattle.battery.specs.declared.Battery.{Battery}
use Rattle.battery.proofs.Rule.{left_is, drivable_is}
use Rattle.battery.specs.Rule.{drivable, needs, left}
use Rattle.battery.specs.declared.Road.{Road}
use Rattle.network.proofs.Passes.{passes_draws}
use Rattle.network.specs.Files.{junction_bytes, potential, passes}
use Rattle.reading.specs.Reading.{label_if, step_backward, most_potential, least_potential, psi_backward}
use Rattle.reading.proofs.Capped.{Capped}
use Rattle.reading.proofs.StepForward.{one_sided}

-- ---- the step

pub backward_capped : (B : Battery) (r : Road)
    → Capped (step_backward B r) (gain r.consumption) (draw r.consumption) (B.size + 1 - draw r.consumption)
backward_capped B r = record { none = refl; some = some }
  where
    go : (x : ℕ) (t u : Bool) → t ≡ leb (draw r.consumption) x → u ≡ leb (draw r.consumption) B.size
        → label_if (t && u) (min (left x r.consumption) (B.size - draw r.consumption))
        ≡ min (suc x + gain r.consumption - draw r.consumption) (B.size + 1 - draw r.consumption)
    go x true true e f =
        omega (
          arith,
          left_is x r.consumption,
          leb-true (draw r.consumption) x (sym e),
          leb-true (draw r.consumption) B.size (sym f),
        )
    go x true false e f = omega (arith, leb-false (draw r.consumption) B.size (sym f))
    go x false u e f =
        let l = leb-false (draw r.consumption) x (sym e) in
        omega (arith, one_sided r.consumption (omega arith))

    some : (l : ℕ) → 0 < l
        → step_backward B r l ≡ min (l + gain r.consumption - draw r.consumption) (B.size + 1 - draw r.consumption)
    some zero h = absurd (omega arith)
    some (suc x) h = go x (drivable B x r) (leb (needs B r) B.size) (drivable_is B x r) refl

-- ---- the number of a junction. Potentials have 32 bits

pub psi_backward_is : (p : ℤ) → psi_backward p ≡ most_potential + 1 + draw p - gain p
psi_backward_is p = let e = draw_of (diff_minus (diff_self p) (diff_self least_potential)) in omega arith

signed_gain : (n : ℕ) → gain (signed32 n) ≤ most_potential + 1
signed_gain n = go (ltb n (2 ^ 31)) refl
  where
    go : (t : Bool) → ltb n (2 ^ 31) ≡ t → gain (signed_pick t n) ≤ most_potential + 1
    go true e = omega arith
    go false e = omega (arith, ltb-false n (2 ^ 31) e)

pub potential_ge : (ns : List ℕ) (v : ℕ) → gain (potential ns v) ≤ most_potential + 1
potential_ge ns v = signed_gain (u32_at ns (v * junction_bytes))

-- a road that passes gains no more, read from its head to its tail, than the numbers fall
pub backward_falls : (c p q : ℤ) → passes c p q ≡ true → gain p ≤ most_potential + 1 → gain q ≤ most_potential + 1
    → psi_backward p + gain c ≤ psi_backward q + draw c
backward_falls c p q e gp gq =
    omega (
      arith,
      leb-true (gain c + draw p + gain q) (draw c + gain p + draw q) (sym (passes_draws c p q) ∙ e),
      psi_backward_is p,
      psi_backward_is q,
    )
