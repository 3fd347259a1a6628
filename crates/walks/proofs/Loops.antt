-- A walk that returns to a junction brings no more than the walk without the loop. Assumes nothing.
use mathlib.Core.Path.{◌≡◌, refl, ◌∙◌, ap}
use mathlib.Core.List.{List, [], ◌∷◌, ◌++◌}
use Prim.Native.Nat.{ℕ, ◌+◌, ◌≤◌, ◌<◌}
use native.Mathlib.Decide.{dec_lt}
use native.Mathlib.Omega.{arith}
use Rattle.walks.specs.Claims.{LoopNoMore}
use Rattle.walks.specs.Label.{Net, Laws, after}
use Rattle.walks.specs.Walk.{Walk, stay, go}

pub after_append : (N : Net) (ks js : List ℕ) (l : ℕ) → after N (ks ++ js) l ≡ after N js (after N ks l)
after_append N [] js l = refl
after_append N (k ∷ ks) js l = after_append N ks js (N.step k l)

module _ (N : Net) (psi : ℕ → ℕ) (laws : Laws N psi) where
  after_none : (ks : List ℕ) → after N ks 0 ≡ 0
  after_none [] = refl
  after_none (k ∷ ks) = ap (after N ks) (laws.none k) ∙ after_none ks

  pub after_mono : (ks : List ℕ) (l l' : ℕ) → l ≤ l' → after N ks l ≤ after N ks l'
  after_mono [] l l' h = h
  after_mono (k ∷ ks) l l' h = after_mono ks (N.step k l) (N.step k l') (laws.mono k l l' h)

  -- where a label is left at the end, there was one before
  step_some : (ks : List ℕ) (l : ℕ) → 0 < after N ks l → 0 < l
  step_some ks l p = by (dec_lt 0 l)
    where
      by : Dec (0 < l) → 0 < l
      by (yes q) = q
      by (no q) =
          let z : l ≡ 0 = omega arith in
          absurd (omega (arith, ap (after N ks) z, after_none ks))

  -- a walk gains no more than psi falls
  after_gain : {v w : ℕ} {ks : List ℕ} (l : ℕ) → Walk N.roads v ks w → 0 < after N ks l → after N ks l + psi w ≤ l + psi v
  after_gain l stay p = omega arith
  after_gain l (go {ks = ks} k h e w) p =
      omega (arith, after_gain (N.step k l) w p, laws.no_gain k l h (step_some ks (N.step k l) p), ap psi e)

  -- a closed walk brings no more than it set out with
  closed_no_more : {v : ℕ} {ks : List ℕ} (l : ℕ) → Walk N.roads v ks v → after N ks l ≤ l
  closed_no_more {ks = ks} l w = by (dec_lt 0 (after N ks l))
    where
      by : Dec (0 < after N ks l) → after N ks l ≤ l
      by (yes p) = omega (arith, after_gain l w p)
      by (no p) = omega arith

pub loop_no_more : LoopNoMore
loop_no_more N psi laws v l to loop on walk =
    let x = after N to l in
    let e = after_append N to (loop ++ on) l in
    let f = after_append N loop on x in
    let g = after_append N to on l in
    omega (arith, after_mono N psi laws on (after N loop x) x (closed_no_more N psi laws x walk))
