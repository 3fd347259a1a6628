-- 10, 16 or 17 is given exactly when no feasible walk exists and none of 1 to 9 applies, and each exactly for its reason.
-- Assumes nothing.
use Rattle.std.specs.Prelude.{Err, Ok}
use mathlib.Core.Path.{◌≡◌, refl, ap}
use mathlib.Core.List.{List}
use mathlib.Core.Logic.{inl, inr}
use Prim.Native.Nat.{ℕ, ◌≤◌, ◌<◌}
use native.Mathlib.Decide.{dec_lt}
use native.Mathlib.Omega.{arith}
use lib.IntN.{pos}
use lib.ListN.{length}
use Rattle.numbers.specs.Signed.{draw}
use Rattle.refusals.proofs.Faults.{not_both}
use Rattle.refusals.proofs.Early.{no_route, kind}
use Rattle.battery.specs.declared.Battery.{Battery}
use Rattle.battery.specs.declared.Van.{Van}
use Rattle.journeys.proofs.Reasons.{enough_joined}
use Rattle.journeys.proofs.SetOff.{more_is_enough}
use Rattle.journeys.specs.Reasons.{Reason, more_charge, never_enough, not_joined}
use Rattle.journeys.specs.SetOff.{SetOff, least, never}
use Rattle.refusals.specs.Refusals.{number_of}
use Rattle.refusals.specs.declared.Refusal.{Refusal}
use Rattle.promises.specs.Claims.{NoRoute, NoRouteExactly, WouldDo, LeastStart, WhichReason, ReasonExactly}
use Rattle.promises.specs.Given.{plan_numbers}
use Rattle.promises.specs.Order.{battery_of, plan_fault}
use Rattle.promises.specs.Promises.{Arrives, NoWalk, Plans}
use Rattle.promises.specs.declared.PlanQuestion.{PlanQuestion}
use Rattle.promises.proofs.Early.{plan_kind}
use Rattle.promises.proofs.Passed.{start_whole, plan_passed}

-- ---- one of the three

no_route_kind : {n : ℕ} → NoRoute n → kind n ≡ no_route
no_route_kind (inl e) = ap kind e
no_route_kind (inr (inl e)) = ap kind e
no_route_kind (inr (inr e)) = ap kind e

-- they are not told of the input
pub not_early : {X : Type 0} (ns rs : List ℕ) (q : PlanQuestion) (list : List ℕ) {r : Refusal}
    → plan_fault ns rs q (length list) ≡ Err r → NoRoute (number_of r) → X
not_early ns rs q list {r} e n =
    let z : ◌≡◌ {A = ℕ} 0 1 = cc (plan_kind ns rs q (length list) e, no_route_kind n) in
    absurd (omega arith)

-- nor of a success
not_success : {X : Type 0} → NoRoute 0 → X
not_success n = let z : ◌≡◌ {A = ℕ} 0 1 = cc (no_route_kind n) in absurd (omega arith)

reason_number : {B : Battery} {rs : List ℕ} {v w : ℕ} {r : Refusal} → Reason B rs v w r → NoRoute (number_of r)
reason_number (more_charge s) = inl refl
reason_number (never_enough s j) = inr (inl refl)
reason_number (not_joined n) = inr (inr refl)

pub no_route_exactly : NoRouteExactly
no_route_exactly ns rs q list a xs (Plans.refused r e) =
    record { means = λ n. not_early ns rs q list e n; given = λ p w. not_both p e }
no_route_exactly ns rs q list a xs (Plans.none r e w why) = record { means = λ n. (e, w); given = λ p v. reason_number why }
no_route_exactly ns rs q list a xs (Plans.route ks v e g o m) =
    record { means = λ n. not_success n; given = λ p w. absurd (w ks v g) }

-- ---- starts that would do

module _ (rs : List ℕ) (q : PlanQuestion) (in_range : draw q.start ≤ draw q.battery) where
  pub arrives_enough : (ks : List ℕ) {v : Van} → Arrives rs q ks v → WouldDo rs q (draw q.start)
  arrives_enough ks {v} a =
      record { to_full = in_range; by = ks; walk = a.walk; feasible = record { van = v; drives = a.drives } }

  -- they are above the start where no walk is feasible
  pub above_start : (b : ℕ) → WouldDo rs q b → NoWalk rs q → draw q.start < b
  above_start b e none = go (dec_lt (draw q.start) b)
    where
      go : Dec (draw q.start < b) → draw q.start < b
      go (yes h) = h
      go (no h) =
          let f = more_is_enough (battery_of q.battery) rs q.source q.target b (draw q.start) e (omega arith) in_range in
          absurd (none f.by f.feasible.van (record { walk = f.walk; drives = f.feasible.drives }))

-- ---- which of the three

module _ (ns rs : List ℕ) (q : PlanQuestion) (list : List ℕ) (passed : plan_fault ns rs q (length list) ≡ Ok tt) where
  pub in_range : draw q.start ≤ draw q.battery
  in_range = let c = plan_passed ns rs q (length list) passed in (start_whole q.battery q.start c.battery_ok c.start_ok).1

  least_start : (b : ℕ) → NoWalk rs q → SetOff (battery_of q.battery) rs q.source q.target (pos b) → LeastStart rs q b
  least_start b none (least c e m) = record { would_do = e; least = m; above = above_start rs q in_range c e none }

  which : (r : Refusal) → NoWalk rs q → Reason (battery_of q.battery) rs q.source q.target r
      → WhichReason ns rs q list (plan_numbers (Err r))
  which r none (more_charge {b} s) =
      let l = least_start b none s in
      record {
        ten_means = λ _. l;
        ten_given = λ _ _ _ _. refl;
        sixteen_means = λ n. absurd (omega arith);
        sixteen_given = λ _ nev j. absurd (nev b l.would_do);
        seventeen_means = λ n. absurd (omega arith);
        seventeen_given = λ _ n. absurd (n (enough_joined l.would_do));
      }
  which r none (never_enough (never nev) j) =
      record {
        ten_means = λ n. absurd (omega arith);
        ten_given = λ _ _ b e. absurd (nev b e);
        sixteen_means = λ _. record { place_is = refl; never = nev; joined = j };
        sixteen_given = λ _ _ _. refl;
        seventeen_means = λ n. absurd (omega arith);
        seventeen_given = λ _ n. absurd (n j);
      }
  which r none (not_joined apart) =
      record {
        ten_means = λ n. absurd (omega arith);
        ten_given = λ _ _ b e. absurd (apart (enough_joined e));
        sixteen_means = λ n. absurd (omega arith);
        sixteen_given = λ _ _ j. absurd (apart j);
        seventeen_means = λ _. record { place_is = refl; none = apart };
        seventeen_given = λ _ _. refl;
      }

pub reason_exactly : ReasonExactly
reason_exactly ns rs q list a xs (Plans.refused r e) =
    record {
      ten_means = λ n. not_early ns rs q list e (inl n);
      ten_given = λ p _ _ _. not_both p e;
      sixteen_means = λ n. not_early ns rs q list e (inr (inl n));
      sixteen_given = λ p _ _. not_both p e;
      seventeen_means = λ n. not_early ns rs q list e (inr (inr n));
      seventeen_given = λ p _. not_both p e;
    }
reason_exactly ns rs q list a xs (Plans.none r e none why) = which ns rs q list e r none why
reason_exactly ns rs q list a xs (Plans.route ks v e g o m) =
    record {
      ten_means = λ n. absurd (omega arith);
      ten_given = λ _ w _ _. absurd (w ks v g);
      sixteen_means = λ n. absurd (omega arith);
      sixteen_given = λ _ nev _. absurd (nev _ (arrives_enough rs q (in_range ns rs q list e) ks g));
      seventeen_means = λ n. absurd (omega arith);
      seventeen_given = λ _ apart. absurd (apart (record { by = ks; walk = g.walk }));
    }
