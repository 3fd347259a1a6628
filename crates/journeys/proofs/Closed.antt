-- If all roads pass, no closed walk gains energy. Along a walk from v to w by passing roads, the sum of the consumptions is at
-- least potential(v) − potential(w). Assumes nothing.
use mathlib.Core.Path.{◌≡◌, sym, ap, ◌∙◌}
use mathlib.Core.List.{List, [], ◌∷◌}
use Prim.Native.Nat.{ℕ, ◌+◌, ◌≤◌}
use native.Mathlib.Omega.{arith}
use borrow.Author.Tests.{leb-true, le-leb}
use Rattle.numbers.proofs.Diff.{Diff, diff_self, diff_pos, diff_add, diff_le_z}
use Rattle.numbers.specs.Signed.{draw, gain}
use Rattle.battery.specs.declared.Road.{Road}
use Rattle.journeys.specs.Claims.{NoClosedGain, CheckedPassing}
use Rattle.network.specs.Files.{road_of, potential, Passing}
use Rattle.journeys.specs.Walks.{Walk, roads_of, sum_of}
use Rattle.walks.specs.Walk.{stay, go}
use Rattle.network.proofs.Passes.{passes_draws}
use Rattle.network.proofs.Records.{all_sound}

-- what the roads take and what they give
draws : List Road → ℕ
draws [] = 0
draws (r ∷ rs) = draw r.consumption + draws rs

gains : List Road → ℕ
gains [] = 0
gains (r ∷ rs) = gain r.consumption + gains rs

sum_is : (rs : List Road) → Diff (sum_of rs) (draws rs) (gains rs)
unfolding draws gains
sum_is [] = diff_pos 0
sum_is (r ∷ rs) = diff_add (diff_self r.consumption) (sum_is rs)

along : {ns rs : List ℕ} {v w : ℕ} {ks : List ℕ} → Passing ns rs → Walk rs v ks w
    → gains (roads_of rs ks) + draw (potential ns v) + gain (potential ns w) ≤ draws (roads_of rs ks) + gain (potential ns v) + draw (potential ns w)
unfolding draws gains
along {ns} {rs} a stay = omega arith
along {ns} {rs} {v} a (go k h e t) =
    let r = road_of rs k in
    let ih = along a t in
    let p : gain r.consumption + draw (potential ns r.tail) + gain (potential ns r.head) ≤ draw r.consumption + gain (potential ns r.tail) + draw (potential ns r.head)
    = leb-true _ _ (sym (passes_draws r.consumption (potential ns r.tail) (potential ns r.head)) ∙ a.pass k h) in
    let d : draw (potential ns r.tail) ≡ draw (potential ns v) = ap (λ (u : ℕ). draw (potential ns u)) e in
    let g : gain (potential ns r.tail) ≡ gain (potential ns v) = ap (λ (u : ℕ). gain (potential ns u)) e in
    omega arith

pub no_closed_gain : NoClosedGain
no_closed_gain ns rs v ks a w =
    let h = along a w in
    diff_le_z (diff_pos 0) (sum_is (roads_of rs ks))
    ∙ le-leb (0 + gains (roads_of rs ks)) (draws (roads_of rs ks) + 0) (omega arith)

pub checked_passing : CheckedPassing
checked_passing ns rs e = record { pass = λ k h. (all_sound ns rs e k h).passing }
