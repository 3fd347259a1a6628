-- Source = target: best route gives the empty route, and arrives with the start charge. Assumes nothing.
use Rattle.std.specs.Prelude.{Some}
use mathlib.Core.Path.{◌≡◌, refl, sym, ap, subst}
use mathlib.Core.List.{List, [], ◌++◌}
use Prim.Native.Nat.{ℕ}
use lib.ListN.{length, drop}
use Rattle.refusals.proofs.Faults.{not_both}
use Rattle.battery.specs.Drive.{drive_all}
use Rattle.battery.specs.declared.Van.{Van}
use Rattle.journeys.specs.Walks.{Walk, roads_of}
use Rattle.walks.proofs.Stops.{once_closed}
use Rattle.walks.specs.Walk.{stay}
use Rattle.promises.specs.Claims.{StaysPut, SameJunction}
use Rattle.promises.specs.Given.{plan_numbers, routed}
use Rattle.promises.specs.Order.{plan_van}
use Rattle.promises.specs.Promises.{Arrives, Plans}
use Rattle.promises.specs.declared.PlanQuestion.{PlanQuestion}

-- the empty walk
stay_arrives : (rs : List ℕ) (q : PlanQuestion) → q.source ≡ q.target → Arrives rs q [] (plan_van q)
unfolding drive_all
stay_arrives rs q e = record { walk = subst (λ v. Walk rs q.source [] v) e stay; drives = refl }

no_roads : (rs : List ℕ) (q : PlanQuestion) (list : List ℕ) (ks : List ℕ) (v : Van) → ks ≡ []
    → drive_all (plan_van q) (roads_of rs ks) ≡ Some v
    → StaysPut q list (plan_numbers (routed (length ks) v)) (ks ++ drop (length ks) list)
unfolding drive_all
no_roads rs q list ks v e d =
    let f = ap (λ (xs : List ℕ). drive_all (plan_van q) (roads_of rs xs)) e in
    let u : plan_van q ≡ v = cc in
    record {
      no_roads = ap length e;
      arrival_is = sym (ap (λ (x : Van). x.charge) u);
      drawn_is = sym (ap (λ (x : Van). x.drawn) u);
      recovered_is = sym (ap (λ (x : Van). x.recovered) u);
      spilled_is = sym (ap (λ (x : Van). x.spilled) u);
      list_is = ap (λ (xs : List ℕ). xs ++ drop (length xs) list) e;
    }

pub same_junction : SameJunction
same_junction ns rs q list a xs (Plans.refused r f) e p = not_both p f
same_junction ns rs q list a xs (Plans.none r f n why) e p = absurd (n [] (plan_van q) (stay_arrives rs q e))
same_junction ns rs q list a xs (Plans.route ks v f g o m) e p =
    no_roads rs q list ks v (once_closed g.walk e o) g.drives
