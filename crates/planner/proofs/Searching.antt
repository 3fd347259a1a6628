-- From the search's promise, which speaks of labels, to that of best route, which speaks of roads and charges. Assumes nothing.
use Rattle.std.specs.Prelude.{Err, None, Ok, Option, Some, Result}
use mathlib.Core.Path.{◌≡◌, refl, ap, ◌∙◌}
use mathlib.Core.List.{List, ◌++◌}
use Prim.Native.Nat.{ℕ, suc, ◌+◌, ◌≤◌, ◌<◌}
use native.Mathlib.Omega.{arith}
use lib.ListN.{length, drop}
use Rattle.numbers.specs.Signed.{draw}
use Rattle.battery.specs.Drive.{drive_all}
use Rattle.battery.specs.declared.Van.{Van}
use Rattle.network.specs.Files.{junctions}
use Rattle.journeys.specs.Walks.{Once, roads_of}
use Rattle.refusals.specs.declared.Refusal.{Refusal}
use Rattle.walks.specs.Label.{after}
use Rattle.reading.proofs.Forward.{label, label_after}
use Rattle.reading.specs.Reading.{forward, net}
use Rattle.search.specs.declared.Trip.{Trip}
use Rattle.trips.specs.Found.{BestOf, Finds, nowhere, route}
use Rattle.trips.specs.Asks.{FindAsks}
use Rattle.promises.specs.Given.{plan_numbers}
use Rattle.promises.specs.Order.{battery_of, plan_van, plan_fault}
use Rattle.promises.specs.Promises.{Arrives, Most, Plans}
use Rattle.promises.specs.declared.PlanQuestion.{PlanQuestion}
use Rattle.promises.proofs.Passed.{battery_whole, start_whole}
use Rattle.promises.specs.Passed.{PlanPassed}

-- the trip that is searched: the label is the charge of the van that sets out, plus one
abbrev pub trip_for : PlanQuestion → Van → Trip
trip_for q v = record { source = q.source; label = v.charge + 1; target = q.target }

pub find_asks : (ns rs : List ℕ) (q : PlanQuestion) (list : List ℕ) → PlanPassed ns rs q (length list)
    → FindAsks (battery_of q.battery) ns rs (trip_for q (plan_van q)) list
find_asks ns rs q list c =
    let s = start_whole q.battery q.start c.battery_ok c.start_ok in
    record {
      sets_out =
          record {
            readable =
                record {
                  battery_le = (battery_whole q.battery c.battery_ok).draw_le;
                  few = c.files.few;
                  few_roads = c.files.few_roads;
                  checked = c.files.records_ok;
                };
            source_in = c.source_in;
            some = omega arith;
            label_le = omega (arith, s.1);
          };
      target_in = c.target_in;
      room = c.room;
    }

-- what the search promises for the van v
abbrev pub FindsFor : List ℕ → List ℕ → PlanQuestion → Van → List ℕ → Result ℕ Refusal → List ℕ → Type 0
FindsFor ns rs q v list found list' = Finds v.battery ns rs (trip_for q v) list found list'

-- ---- labels and charges

arrived : (d : Option Van) → 0 < label d → (v : Van) × (d ≡ Some v)
arrived (Some v) h = (v, refl)
arrived None h = absurd (omega arith)

module _ (rs : List ℕ) (q : PlanQuestion) where
  -- the label that a walk brings
  brings : List ℕ → ℕ
  brings ks = after (net (forward (battery_of q.battery)) rs) ks (draw q.start + 1)

  brings_is : (ks : List ℕ) → brings ks ≡ label (drive_all (plan_van q) (roads_of rs ks))
  unfolding brings
  brings_is ks =
      let e : draw q.start + 1 ≡ suc (draw q.start) = omega arith in
      ap (after (net (forward (battery_of q.battery)) rs) ks) e ∙ label_after (battery_of q.battery) (draw q.start) rs ks

  brings_on : (ks : List ℕ) (v : Van) → Arrives rs q ks v → brings ks ≡ suc v.charge
  brings_on ks v a = brings_is ks ∙ ap label a.drives

  -- no walk brings more than the best label
  bound : (x : ℕ) → BestOf (battery_of q.battery) rs (trip_for q (plan_van q)) x
      → (ks : List ℕ) (v : Van) → Arrives rs q ks v → suc v.charge ≤ x
  unfolding net brings
  bound x b ks v a = omega (arith, brings_on ks v a, b.most ks a.walk)

-- ---- what the search found

module _ (ns rs : List ℕ) (q : PlanQuestion) (list : List ℕ) (passed : plan_fault ns rs q (length list) ≡ Ok tt) where
  -- no route
  pub plans_none : (r : Refusal) (list' : List ℕ) → FindsFor ns rs q (plan_van q) list (Err r) list'
      → Plans ns rs q list (plan_numbers (Err r)) list'
  plans_none r list' (nowhere best reason) = Plans.none r passed (λ ks v a. omega (arith, bound rs q 0 best ks v a)) reason

-- a route, in roads and charges
pub record BestWalk (ns rs : List ℕ) (q : PlanQuestion) (list : List ℕ) (count : ℕ) (list' : List ℕ) : Type 0 where
  pub by : List ℕ
  pub van : Van
  pub few : length by < junctions ns
  pub arrives : Arrives rs q by van
  pub once : Once rs q.source by
  pub most : Most rs q van.charge
  pub count_is : count ≡ length by
  pub list_is : list' ≡ by ++ drop (length by) list

pub best_walk : (ns rs : List ℕ) (q : PlanQuestion) (list : List ℕ) (count : ℕ) (list' : List ℕ)
    → FindsFor ns rs q (plan_van q) list (Ok count) list'
    → BestWalk ns rs q list count list'
unfolding net brings
best_walk ns rs q list count list' (route ks few walk once some best) =
    let e = brings_is rs q ks in
    let d = arrived (drive_all (plan_van q) (roads_of rs ks)) (omega (arith, some, e)) in
    let a : Arrives rs q ks d.0 = record { walk = walk; drives = d.1 } in
    record {
      by = ks;
      van = d.0;
      few = few;
      arrives = a;
      once = once;
      most = λ js u g. omega (arith, bound rs q _ best js u g, brings_on rs q ks d.0 a);
      count_is = refl;
      list_is = refl;
    }
