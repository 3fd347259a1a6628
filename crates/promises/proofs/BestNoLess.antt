-- Demand 3 of best arrivals: a network that is no harder, a battery and a start that are no lower. Assumes nothing.
use mathlib.Core.Path.{◌≡◌, refl, sym, ◌∙◌, subst}
use mathlib.Core.Bool.{true}
use mathlib.Core.List.{List, [], ◌∷◌}
use mathlib.Core.Logic.{◌⊎◌, inl, inr}
use Prim.Native.Nat.{ℕ, ◌≤◌}
use native.Mathlib.Omega.{arith}
use lib.Signed.{le_z}
use Rattle.numbers.proofs.Diff.{draw_mono}
use Rattle.battery.proofs.Easier.{Easier, none, more, Above, easier_arrives}
use Rattle.battery.specs.declared.Road.{Road}
use Rattle.battery.specs.declared.Van.{Van}
use Rattle.refusals.proofs.Early.{number_pos}
use Rattle.journeys.specs.Walks.{Walk, roads_of}
use Rattle.walks.specs.Walk.{stay, go}
use Rattle.promises.specs.Claims.{NoRoute, NoHarder, BestNoLess}
use Rattle.promises.specs.Order.{plan_van}
use Rattle.promises.specs.Promises.{Arrives, Plans}
use Rattle.promises.specs.declared.PlanNumbers.{PlanNumbers}
use Rattle.promises.specs.declared.PlanQuestion.{PlanQuestion}
use Rattle.promises.proofs.NoRoutes.{not_early}

-- ---- two networks

-- a walk over the second network's roads from v to w that takes, place by place, no more than the roads `rs`
record Beside (rs' : List ℕ) (v w : ℕ) (rs : List Road) : Type 0 where
  pub by : List ℕ
  pub walk : Walk rs' v by w
  pub easier : Easier rs (roads_of rs' by)

beside : (rs rs' : List ℕ) {v w : ℕ} {ks : List ℕ} → NoHarder rs rs' → Walk rs v ks w → Beside rs' v w (roads_of rs ks)
beside rs rs' n stay = record { by = []; walk = stay; easier = none }
beside rs rs' {w} n (go k h e walk) =
    let b = beside rs rs' n walk in
    let j = n k h in
    let c = j.2 in
    record {
      by = j.0 ∷ b.by;
      walk = go j.0 j.1 (sym c.same_tail ∙ e) (subst (λ u. Walk rs' u b.by w) c.same_head b.walk);
      easier = more c.no_higher b.easier;
    }

-- where a walk arrives with c or more, best route has a route, which arrives with c or more
second : {ns rs list ys ks : List ℕ} {q : PlanQuestion} {b : PlanNumbers} {w : Van} {c : ℕ} → Plans ns rs q list b ys
    → (b.number ≡ 0) ⊎ NoRoute b.number → Arrives rs q ks w → c ≤ w.charge → (b.number ≡ 0) × (c ≤ b.arrival)
second (Plans.refused r e) (inl n) a h = absurd (omega (arith, number_pos r))
second {ns} {rs} {list} {q} (Plans.refused r e) (inr n) a h = not_early ns rs q list e n
second {ks} {w} (Plans.none r e no_Walk why) n a h = absurd (no_Walk ks w a)
second {ks} {w} (Plans.route js u e g o most) n a h = (refl, omega (arith, most ks w a))

sets_out : (q q' : PlanQuestion) → le_z q.battery q'.battery ≡ true → le_z q.start q'.start ≡ true
    → Above (plan_van q) (plan_van q')
sets_out q q' m b =
    record { battery_le = draw_mono q.battery q'.battery m; charge_le = draw_mono q.start q'.start b }

pub best_no_less : BestNoLess
best_no_less ns rs ns' rs' q q' list list' a b xs ys (Plans.refused r e) p s t harder m st z n =
    absurd (omega (arith, number_pos r))
best_no_less ns rs ns' rs' q q' list list' a b xs ys (Plans.none r e no_Walk why) p s t harder m st z n =
    absurd (omega (arith, number_pos r))
best_no_less ns rs ns' rs' q q' list list' a b xs ys (Plans.route ks v e g o most) p s t harder m st z n =
    let w = subst (λ x. Walk rs x ks q'.target) s (subst (λ x. Walk rs q.source ks x) t g.walk) in
    let r = beside rs rs' harder w in
    let d = easier_arrives r.easier (sets_out q q' m st) g.drives in
    second p n (record { walk = r.walk; drives = d.drives }) d.above.charge_le
