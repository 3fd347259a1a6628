-- What decides the outcome of best route on network H: one law for every row with a route, one for every row without.
-- Assumes nothing.
use Rattle.std.specs.Prelude.{Err, None, Ok, Option, Some}
use mathlib.Core.Path.{◌≡◌, refl, sym, ap}
use mathlib.Core.Bool.{Bool, true, ◌&&◌}
use mathlib.Core.List.{List, ◌++◌}
use mathlib.Core.Logic.{◌⊎◌, ⊎_elim}
use Prim.Native.Nat.{ℕ, ◌≤◌, ◌<◌}
use native.Mathlib.Omega.{arith}
use borrow.Author.Tests.{le-leb}
use lib.ListN.{length, drop}
use Rattle.battery.specs.Drive.{drive_all}
use Rattle.battery.specs.declared.Van.{Van}
use Rattle.refusals.proofs.Faults.{both_true, not_both}
use Rattle.refusals.proofs.Early.{number_pos}
use Rattle.refusals.specs.Order.{first_from}
use Rattle.network.specs.Check.{road_fault, potential_fault, records_fault}
use Rattle.network.specs.Files.{is_junction}
use Rattle.journeys.specs.Reasons.{Reason}
use Rattle.journeys.specs.Walks.{roads_of}
use Rattle.refusals.specs.declared.Refusal.{Refusal}
use Rattle.promises.proofs.OnePlan.{one_plan}
use Rattle.promises.specs.Given.{plan_numbers, routed}
use Rattle.promises.specs.Order.{is_battery, is_start, battery_of, plan_van, plan_fault}
use Rattle.promises.specs.Promises.{Arrives, Most, NoWalk, Plans}
use Rattle.promises.specs.declared.PlanNumbers.{PlanNumbers}
use Rattle.promises.specs.declared.PlanQuestion.{PlanQuestion}
use Rattle.hill.specs.Hill.{nodes, roads}
use Rattle.hill.specs.Table.{Only, BestRow}
use Rattle.hill.proofs.Walks.{once, Way, way}

-- ---- the tests

-- 3, 4 and 5
abbrev pub clear : PlanQuestion → Bool
clear q =
    is_battery q.battery
    && (is_start q.battery q.start && (is_junction nodes q.source && is_junction nodes q.target))

records_pass : records_fault nodes roads ≡ Ok tt
unfolding first_from road_fault potential_fault
records_pass = refl

plan_passes : (q : PlanQuestion) (list : List ℕ) → clear q ≡ true → 3 ≤ length list → plan_fault nodes roads q (length list) ≡ Ok tt
unfolding plan_fault
plan_passes q list c h =
    let a = both_true (is_battery q.battery) _ c in
    let b = both_true (is_start q.battery q.start) _ a.1 in
    let j = both_true (is_junction nodes q.source) _ b.1 in
    simp (a.0, b.0, j.0, j.1, le-leb 3 (length list) h, records_pass)

-- ---- a row with a route

-- a drive that does not arrive with a or more
abbrev pub Short : ℕ → Option Van → Type 0
Short a (Some v) = v.charge < a
Short a None = Unit {0}

short_of : {a : ℕ} {v : Van} (d : Option Van) → Short a d → d ≡ Some v → v.charge < a
short_of {a} {v} (Some u) s e =
    let w : u ≡ v = cc in
    let c = ap (λ (x : Van). x.charge) w in
    omega arith
short_of None s e = let z : ◌≡◌ {A = ℕ} 0 1 = cc in absurd (omega arith)

-- the walk by ks is that by `best`, or arrives with less than a, or not at all
abbrev pub Else : PlanQuestion → List ℕ → ℕ → List ℕ → Type 0
Else q best a ks = (ks ≡ best) ⊎ Short a (drive_all (plan_van q) (roads_of roads ks))

-- v arrives by the roads `best`, and no other walk does as well
pub record BestBy (q : PlanQuestion) (best : List ℕ) (v : Van) : Type 0 where
  pub cleared : clear q ≡ true
  pub arrives : Arrives roads q best v
  pub others : (ks : List ℕ) → Way q.source ks q.target → Else q best v.charge ks

module _ {q : PlanQuestion} {best : List ℕ} {v : Van} (b : BestBy q best v) where
  most : Most roads q v.charge
  most ks u g = ⊎_elim same (λ s. omega (arith, short_of _ s g.drives)) (b.others ks (way g.walk))
    where
      same : ks ≡ best → u.charge ≤ v.charge
      same e =
          let d = ap (λ (xs : List ℕ). drive_all (plan_van q) (roads_of roads xs)) e in
          let w : u ≡ v = cc (g.drives, b.arrives.drives) in
          let c = ap (λ (x : Van). x.charge) w in
          omega arith

  pub best_only : (list : List ℕ) → 3 ≤ length list
      → Only q list (plan_numbers (routed (length best) v)) (best ++ drop (length best) list)
  best_only list h = record { allowed = given; only = only }
    where
      given : Plans nodes roads q list (plan_numbers (routed (length best) v)) (best ++ drop (length best) list)
      given = Plans.route best v (plan_passes q list b.cleared h) b.arrives (once b.arrives.walk) most

      same : {n : PlanNumbers} {xs : List ℕ} → Plans nodes roads q list n xs → xs ≡ best ++ drop (length best) list
          → (n ≡ plan_numbers (routed (length best) v)) × (xs ≡ best ++ drop (length best) list)
      same {n} {xs} p e = ((one_plan nodes roads q list n _ xs _ p given).chosen e, e)

      only : (n : PlanNumbers) (xs : List ℕ) → Plans nodes roads q list n xs
          → (n ≡ plan_numbers (routed (length best) v)) × (xs ≡ best ++ drop (length best) list)
      only n xs (Plans.refused r e) = not_both (plan_passes q list b.cleared h) e
      only n xs (Plans.none r e no_walk why) = absurd (no_walk best v b.arrives)
      only n xs (Plans.route ks u e g o m) =
          ⊎_elim (λ p. same (Plans.route ks u e g o m) (ap (λ (js : List ℕ). js ++ drop (length js) list) p))
          (λ s. absurd (omega (arith, short_of _ s g.drives, m best v b.arrives))) (b.others ks (way g.walk))

  pub best_row : {a : ℕ} → v.charge ≡ a → (list : List ℕ) → 3 ≤ length list → BestRow q a best list
  best_row e list h =
      record {
        numbers = plan_numbers (routed (length best) v);
        success = refl;
        arrival_is = e;
        roads_is = refl;
        outcome = best_only list h;
      }

  pub best_arrival : (list : List ℕ) → 3 ≤ length list → {n : PlanNumbers} {xs : List ℕ} → Plans nodes roads q list n xs
      → n.arrival ≡ v.charge
  best_arrival list h {n} {xs} p = ap (λ (x : PlanNumbers). x.arrival) ((best_only list h).only n xs p).0

-- ---- a row without a route

pub none_only : (q : PlanQuestion) → clear q ≡ true
    → ((ks : List ℕ) → Way q.source ks q.target → drive_all (plan_van q) (roads_of roads ks) ≡ None)
    → (r : Refusal) → Reason (battery_of q.battery) roads q.source q.target r
    → (list : List ℕ) → 3 ≤ length list → Only q list (plan_numbers (Err r)) list
none_only q c low r why list h = record { allowed = given; only = only }
  where
    no_walk : NoWalk roads q
    no_walk ks v g = let z : ◌≡◌ {A = ℕ} 0 1 = cc (low ks (way g.walk), g.drives) in absurd (omega arith)

    given : Plans nodes roads q list (plan_numbers (Err r)) list
    given = Plans.none r (plan_passes q list c h) no_walk why

    only : (n : PlanNumbers) (xs : List ℕ) → Plans nodes roads q list n xs
        → (n ≡ plan_numbers (Err r)) × (xs ≡ list)
    only n xs p =
        let a = (one_plan nodes roads q list _ n list xs given p).refusal (λ e. omega (arith, number_pos r)) in
        (sym a.0, sym a.1)
