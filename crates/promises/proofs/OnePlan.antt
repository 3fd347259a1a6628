-- Two outcomes of best route on the same input agree in number, place and arrival; a refusal leaves nothing free, and with
-- the same list after it all numbers are the same. Assumes nothing.
use Rattle.std.specs.Prelude.{Err}
use mathlib.Core.Path.{◌≡◌, refl, ap}
use mathlib.Core.List.{List}
use Prim.Native.Nat.{ℕ}
use native.Mathlib.Omega.{arith}
use lib.ListN.{length}
use Rattle.battery.specs.Drive.{drive_all}
use Rattle.battery.specs.declared.Van.{Van}
use Rattle.refusals.proofs.Faults.{same_refusal, not_both}
use Rattle.journeys.proofs.Reasons.{one_reason}
use Rattle.journeys.specs.Walks.{roads_of}
use Rattle.refusals.specs.declared.Refusal.{Refusal}
use Rattle.walks.proofs.Stops.{once_begins}
use Rattle.promises.specs.Claims.{Agree, OnePlan}
use Rattle.promises.specs.Given.{plan_numbers, routed}
use Rattle.promises.specs.Order.{plan_van}
use Rattle.promises.specs.Promises.{Arrives, Plans}
use Rattle.promises.specs.declared.PlanNumbers.{PlanNumbers}
use Rattle.promises.specs.declared.PlanQuestion.{PlanQuestion}

-- the same outcome
agree_same : {a b : PlanNumbers} {list : List ℕ} → a ≡ b → Agree a b list list
agree_same e =
    record {
      number_is = ap (λ (x : PlanNumbers). x.number) e;
      place_is = ap (λ (x : PlanNumbers). x.place) e;
      arrival_is = ap (λ (x : PlanNumbers). x.arrival) e;
      refusal = λ n. (e, refl);
      chosen = λ s. e;
    }

-- walks by the same roads give the same numbers
same_roads : {rs : List ℕ} {q : PlanQuestion} {ks js : List ℕ} {v w : Van} → Arrives rs q ks v → Arrives rs q js w → ks ≡ js
    → plan_numbers (routed (length ks) v) ≡ plan_numbers (routed (length js) w)
same_roads {rs} {q} {ks} {js} {v} {w} a b e =
    let d = ap (λ (xs : List ℕ). drive_all (plan_van q) (roads_of rs xs)) e in
    let u : v ≡ w = cc (a.drives, b.drives) in
    let p : plan_numbers (routed (length ks) v) ≡ plan_numbers (routed (length js) w) = cc in
    p

pub one_plan : OnePlan
one_plan ns rs q list a b xs ys (Plans.refused r e) (Plans.refused s f) =
    agree_same (ap (λ (x : Refusal). plan_numbers (Err x)) (same_refusal e f))
one_plan ns rs q list a b xs ys (Plans.refused r e) (Plans.none s f h y) = not_both f e
one_plan ns rs q list a b xs ys (Plans.refused r e) (Plans.route js w f h o m) = not_both f e
one_plan ns rs q list a b xs ys (Plans.none r e g x) (Plans.refused s f) = not_both e f
one_plan ns rs q list a b xs ys (Plans.none r e g x) (Plans.none s f h y) =
    agree_same (ap (λ (z : Refusal). plan_numbers (Err z)) (one_reason _ rs _ _ r s x y))
one_plan ns rs q list a b xs ys (Plans.none r e g x) (Plans.route js w f h o m) = absurd (g js w h)
one_plan ns rs q list a b xs ys (Plans.route ks v e g o m) (Plans.refused s f) = not_both e f
one_plan ns rs q list a b xs ys (Plans.route ks v e g o m) (Plans.none s f h y) = absurd (h ks v g)
one_plan ns rs q list a b xs ys (Plans.route ks v e g o m) (Plans.route js w f h o' m') =
    record {
      number_is = refl;
      place_is = refl;
      arrival_is = omega (arith, m js w h, m' ks v g);
      refusal = λ n. absurd (n refl);
      chosen = λ s. same_roads g h (once_begins _ _ g.walk h.walk refl o o' s);
    }
