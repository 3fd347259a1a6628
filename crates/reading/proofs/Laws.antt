-- The three laws of the step, for each sense in which the roads of files are read, and how large labels become. A new sense
-- proves them here, with its arithmetic in a file like StepForward. Assumes nothing.
use mathlib.Core.Path.{◌≡◌}
use mathlib.Core.Bool.{true}
use mathlib.Core.List.{List, [], ◌∷◌}
use Prim.Native.Nat.{ℕ, zero, suc, ◌+◌, ◌-◌, ◌≤◌}
use native.Mathlib.Omega.{arith}
use Rattle.numbers.specs.Signed.{draw, gain}
use Rattle.battery.specs.declared.Battery.{Battery}
use Rattle.battery.specs.declared.Road.{Road}
use Rattle.journeys.proofs.Closed.{checked_passing}
use Rattle.network.specs.Files.{road_of, potential, passes, Passing}
use Rattle.walks.specs.Label.{Laws, after, Best}
use Rattle.reading.specs.Asks.{Readable}
use Rattle.reading.specs.Reading.{most_label, entered, left, step_of, psi_of, psi, net}
use Rattle.reading.specs.declared.Reading.{Reading}
use Rattle.reading.specs.declared.Sense.{Sense}
use Rattle.reading.specs.declared.Sense.TheVariants.{Forward, Backward}
use Rattle.reading.proofs.Capped.{Capped, capped_mono, capped_gain, capped_le}
use Rattle.reading.proofs.StepForward.{forward_capped, potential_le, forward_falls}
use Rattle.reading.proofs.StepBackward.{backward_capped, potential_ge, backward_falls}

-- ---- one road

abbrev cap_of : Sense → Battery → Road → ℕ
cap_of Forward B r = B.size + 1
cap_of Backward B r = B.size + 1 - draw r.consumption

step_capped : (s : Sense) (B : Battery) (r : Road)
    → Capped (step_of s B r) (gain r.consumption) (draw r.consumption) (cap_of s B r)
step_capped Forward B r = forward_capped B r
step_capped Backward B r = backward_capped B r

pub step_of_le : (s : Sense) (B : Battery) (r : Road) (l : ℕ) → step_of s B r l ≤ most_label B
step_of_le Forward B r l = capped_le (step_capped Forward B r) l
step_of_le Backward B r l = omega (arith, capped_le (step_capped Backward B r) l)

-- a road that passes gains no more than the numbers of its ends fall
abbrev Passes : List ℕ → Road → Type 0
Passes ns r = passes r.consumption (potential ns r.tail) (potential ns r.head) ≡ true

falls : (s : Sense) (ns : List ℕ) (r : Road) → Passes ns r
    → psi_of s (potential ns (left s r)) + gain r.consumption ≤ psi_of s (potential ns (entered s r)) + draw r.consumption
falls Forward ns r e =
    forward_falls r.consumption (potential ns r.tail) (potential ns r.head) e (potential_le ns r.tail) (potential_le ns r.head)
falls Backward ns r e =
    backward_falls r.consumption (potential ns r.tail) (potential ns r.head) e (potential_ge ns r.tail) (potential_ge ns r.head)

-- ---- the roads of files

-- the three laws, where all roads pass
pub laws_of : (rd : Reading) (ns rs : List ℕ) → Passing ns rs → Laws (net rd rs) (psi rd ns)
unfolding net
laws_of rd ns rs a =
    record {
      none = λ k. (step_capped rd.sense rd.battery (road_of rs k)).none;
      mono = λ k. capped_mono (step_capped rd.sense rd.battery (road_of rs k));
      no_gain =
          λ k l h. capped_gain (step_capped rd.sense rd.battery (road_of rs k)) l _ _ (falls rd.sense ns (road_of rs k) (a.pass k h));
    }

-- files that have passed the network check
pub laws : (rd : Reading) (ns rs : List ℕ) → Readable rd.battery ns rs → Laws (net rd rs) (psi rd ns)
laws rd ns rs a = laws_of rd ns rs (checked_passing ns rs a.checked)

-- ---- no label is greater than the greatest

pub step_le : (rd : Reading) (rs : List ℕ) (k l : ℕ) → (net rd rs).step k l ≤ most_label rd.battery
unfolding net
step_le rd rs k l = step_of_le rd.sense rd.battery (road_of rs k) l

pub after_le : (rd : Reading) (rs ks : List ℕ) (l : ℕ) → l ≤ most_label rd.battery → after (net rd rs) ks l ≤ most_label rd.battery
after_le rd rs [] l h = h
after_le rd rs (k ∷ ks) l h = after_le rd rs ks _ (step_le rd rs k l)

pub best_le : (rd : Reading) (rs : List ℕ) (s l v x : ℕ) → l ≤ most_label rd.battery → Best (net rd rs) s l v x
    → x ≤ most_label rd.battery
best_le rd rs s l v zero h b = omega arith
best_le rd rs s l v (suc x) h b =
    let r = b.reached (omega arith) in
    omega (arith, r.brings, after_le rd rs r.by l h)
