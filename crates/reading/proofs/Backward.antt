-- What backward labels mean. A forward label (charge + 1) and a backward one (slack + 1) at the same junction meet where the
-- charge is no less than the need, M less the slack: where their sum is above M + 1. They meet at one end of a road exactly
-- where they meet at the other, so that the best backward label tells the least charge to set off with. Assumes nothing.
use Rattle.std.specs.Prelude.{None, Option, Some}
use mathlib.Core.Path.{◌≡◌, refl, sym, ap, ◌∙◌, subst}
use mathlib.Core.List.{List, [], ◌∷◌, reverse, reverse-cons, reverse-reverse}
use Prim.Native.Nat.{ℕ, zero, suc, ◌+◌, ◌-◌, ◌≤◌, ◌<◌, min}
use native.Mathlib.Omega.{arith}
use lib.IntN.{ℤ, pos, negsuc}
use Rattle.numbers.specs.Signed.{draw, gain}
use Rattle.battery.specs.declared.Battery.{Battery}
use Rattle.battery.specs.Drive.{fresh, drive_all}
use Rattle.battery.specs.declared.Road.{Road}
use Rattle.network.specs.Files.{road_of}
use Rattle.journeys.specs.SetOff.{Enough, SetOff, least, never}
use Rattle.journeys.specs.Walks.{roads_of, Feasible}
use Rattle.walks.proofs.Loops.{after_append}
use Rattle.walks.specs.Label.{after, Best}
use Rattle.reading.specs.Reading.{forward, backward, step_forward, step_backward, charge_of, net}
use Rattle.reading.specs.declared.Sense.TheVariants.{Forward, Backward}
use Rattle.reading.proofs.Forward.{label, label_after}
use Rattle.reading.proofs.Laws.{step_of_le, after_le}
use Rattle.reading.proofs.Net.{walk_back, walk_forth}
use Rattle.reading.proofs.StepBackward.{backward_capped}
use Rattle.reading.proofs.StepForward.{forward_capped}
use Rattle.battery.specs.declared.Van.{Van}

-- ---- one road

record Meets (M f g : ℕ) : Type 0 where
  pub above : M + 1 < f + g

-- each way: they meet at the head, they meet at the tail
record SameMeeting (M f g f' g' : ℕ) : Type 0 where
  pub to_tail : Meets M f' g → Meets M f g'
  pub to_head : Meets M f g' → Meets M f' g

steps_meet : (B : Battery) (r : Road) (f g : ℕ) → f ≤ B.size + 1 → g ≤ B.size + 1 → SameMeeting B.size f g (step_forward B r f) (step_backward B r g)
steps_meet B r zero g hf hg =
    let b = step_of_le Backward B r g in
    record { to_tail = λ m. absurd (omega (arith, m.above)); to_head = λ m. absurd (omega (arith, m.above)) }
steps_meet B r (suc f) zero hf hg =
    let b = (forward_capped B r).some (suc f) (omega arith) in
    record { to_tail = λ m. absurd (omega (arith, m.above)); to_head = λ m. absurd (omega (arith, m.above)) }
steps_meet B r (suc f) (suc g) hf hg =
    go r.consumption ((forward_capped B r).some (suc f) (omega arith)) ((backward_capped B r).some (suc g) (omega arith))
  where
    go : (c : ℤ) → step_forward B r (suc f) ≡ min (suc f + gain c - draw c) (B.size + 1)
        → step_backward B r (suc g) ≡ min (suc g + gain c - draw c) (B.size + 1 - draw c)
        → SameMeeting B.size (suc f) (suc g) (step_forward B r (suc f)) (step_backward B r (suc g))
    go (pos n) a b =
        record {
          to_tail = λ m. record { above = omega (arith, m.above) };
          to_head = λ m. record { above = omega (arith, m.above) };
        }
    go (negsuc n) a b =
        record {
          to_tail = λ m. record { above = omega (arith, m.above) };
          to_head = λ m. record { above = omega (arith, m.above) };
        }

-- ---- a walk

-- the label after the roads ks, read from the last to the first
back : Battery → List ℕ → List ℕ → ℕ → ℕ
back B rs ks l = after (net (backward B) rs) (reverse ks) l

back_le : (B : Battery) (rs ks : List ℕ) (l : ℕ) → l ≤ B.size + 1 → back B rs ks l ≤ B.size + 1
unfolding back
back_le B rs ks l h = after_le (backward B) rs (reverse ks) l h

back_then : (B : Battery) (rs : List ℕ) (k : ℕ) (ks : List ℕ) (l : ℕ)
    → back B rs (k ∷ ks) l ≡ step_backward B (road_of rs k) (back B rs ks l)
unfolding net back
back_then B rs k ks l =
    ap (λ (js : List ℕ). after (net (backward B) rs) js l) (reverse-cons k ks)
    ∙ after_append (net (backward B) rs) (reverse ks) (k ∷ []) l

walk_meets : (B : Battery) (rs ks : List ℕ) (f g : ℕ) → f ≤ B.size + 1 → g ≤ B.size + 1
    → SameMeeting B.size f g (after (net (forward B) rs) ks f) (back B rs ks g)
unfolding net back
walk_meets B rs [] f g hf hg = record { to_tail = λ m. m; to_head = λ m. m }
walk_meets B rs (k ∷ ks) f g hf hg =
    let r = road_of rs k in
    let x = step_forward B r f in
    let y = back B rs ks g in
    let e = back_then B rs k ks g in
    let rest = walk_meets B rs ks x g (omega (arith, step_of_le Forward B r f)) hg in
    let one = steps_meet B r f y hf (back_le B rs ks g hg) in
    record {
      to_tail = λ m. subst (λ (z : ℕ). Meets B.size f z) (sym e) (one.to_tail (rest.to_tail m));
      to_head = λ m. rest.to_head (one.to_head (subst (λ (z : ℕ). Meets B.size f z) e m));
    }

-- ---- the charge to set off with

feasible_label : (B : Battery) (b : ℕ) (rs ks : List ℕ) → Feasible B b rs ks → 0 < after (net (forward B) rs) ks (suc b)
feasible_label B b rs ks w = omega (arith, label_after B b rs ks, ap label w.drives)

label_feasible : (B : Battery) (b : ℕ) (rs ks : List ℕ) → 0 < after (net (forward B) rs) ks (suc b) → Feasible B b rs ks
label_feasible B b rs ks h = go (drive_all (fresh B b) (roads_of rs ks)) refl
  where
    go : (d : Option Van) → drive_all (fresh B b) (roads_of rs ks) ≡ d → Feasible B b rs ks
    go (Some v) e = record { van = v; drives = e }
    go None e = absurd (omega (arith, label_after B b rs ks, ap label e))

feasible_slack : (B : Battery) (b : ℕ) (rs ks : List ℕ) → b ≤ B.size → Feasible B b rs ks → B.size < b + back B rs ks (B.size + 1)
feasible_slack B b rs ks h w =
    let m = (walk_meets B rs ks (suc b) (B.size + 1) (omega arith) (omega arith)).to_tail (record { above = omega (arith, feasible_label B b rs ks w) }) in
    omega (arith, m.above)

slack_feasible : (B : Battery) (b : ℕ) (rs ks : List ℕ) → b ≤ B.size → B.size < b + back B rs ks (B.size + 1) → Feasible B b rs ks
slack_feasible B b rs ks h s =
    let m = (walk_meets B rs ks (suc b) (B.size + 1) (omega arith) (omega arith)).to_head (record { above = omega arith }) in
    label_feasible B b rs ks (omega (arith, m.above))

module _ (B : Battery) (rs : List ℕ) (v depot : ℕ) where
  enough_most : (x b : ℕ) → Best (net (backward B) rs) depot (B.size + 1) v x → Enough B rs v depot b → B.size < b + x
  unfolding back
  enough_most x b best e =
      omega (arith, feasible_slack B b rs e.by e.to_full e.feasible, best.most (reverse e.by) (walk_back B rs e.walk))

  most_enough : (x : ℕ) → Best (net (backward B) rs) depot (B.size + 1) v (suc x) → Enough B rs v depot (B.size - x)
  unfolding back
  most_enough x best =
      let r = best.reached (omega arith) in
      let e : back B rs (reverse r.by) (B.size + 1) ≡ suc x =
      ap (λ (js : List ℕ). after (net (backward B) rs) js (B.size + 1)) (reverse-reverse r.by) ∙ r.brings in
      record {
        to_full = omega arith;
        by = reverse r.by;
        walk = walk_forth B rs r.walk;
        feasible = slack_feasible B (B.size - x) rs (reverse r.by) (omega arith) (omega (arith, e));
      }

  pub set_off : (x : ℕ) → Best (net (backward B) rs) depot (B.size + 1) v x → SetOff B rs v depot (charge_of B x)
  set_off zero best = never (λ b e. omega (arith, enough_most 0 b best e, e.to_full))
  set_off (suc x) best = least (B.size - x) (most_enough x best) (λ b e. omega (arith, enough_most (suc x) b best e))

-- where it is not −1
pub charge_some : (B : Battery) (l : ℕ) → 0 < l → charge_of B l ≡ pos (B.size + 1 - l)
charge_some B zero h = absurd (omega arith)
charge_some B (suc x) h = let e : B.size - x ≡ B.size + 1 - suc x = omega arith in ap pos e
