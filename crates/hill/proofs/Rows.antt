-- The rows of the table, and the one unit that brings 301. Each row names its walks, and a row without a route its reason; the
-- checker works out the rule.
-- Assumes nothing.
use Rattle.std.specs.Prelude.{None, Ok, Some}
use mathlib.Core.Path.{◌≡◌, refl, subst}
use mathlib.Core.Bool.{true}
use mathlib.Core.List.{List, []}
use mathlib.Core.Logic.{inl, inr}
use Prim.Native.Nat.{ℕ, ◌<◌}
use native.Mathlib.Omega.{arith}
use lib.IntN.{ℤ, pos}
use Rattle.battery.specs.Drive.{driven, drive, drive_all}
use Rattle.battery.specs.Profile.{one_road, followed_by, profile_of}
use Rattle.battery.specs.declared.Profile.{Profile}
use Rattle.battery.specs.declared.Van.{Van}
use Rattle.refusals.specs.Order.{first_from}
use Rattle.network.specs.Check.{road_fault, potential_fault}
use Rattle.journeys.specs.Reasons.{Reason, more_charge, never_enough, not_joined}
use Rattle.refusals.specs.Refusals.{number_of, place_of}
use Rattle.journeys.specs.Walks.{Walk, roads_of}
use Rattle.refusals.specs.declared.Refusal.{Refusal}
use Rattle.refusals.specs.declared.Refusal.TheVariants.{NotJoined}
use Rattle.routes.specs.Places.{place_fault}
use Rattle.walks.specs.Walk.{stay}
use Rattle.promises.specs.Given.{drive_numbers}
use Rattle.promises.specs.Order.{van_of, plan_van, drive_fault, profile_fault}
use Rattle.promises.specs.Promises.{Drives, Profiles}
use Rattle.promises.specs.declared.DriveQuestion.{DriveQuestion}
use Rattle.hill.specs.Hill.{nodes, roads, sized, asks}
use Rattle.hill.specs.Table.{Row, DriveRow, Says, TableHolds, OneMoreBrings301}
use Rattle.hill.proofs.Outcomes.{clear, Short, Else, BestBy, best_row, best_arrival, none_only}
use Rattle.hill.proofs.Charges.{charges}
use Rattle.hill.proofs.Walks.{Way, way, stays, no_way, Two, to_3, to_2, to_2_flat, hill_3, hill_2, flat_2}

-- ---- rows of best route

module _ {m b s t : ℕ} {one other : List ℕ} (two : Two s t one other) where
  -- the better of two walks
  pub better : {v : Van} → Walk roads s one t → clear (asks m b s t) ≡ true
      → drive_all (plan_van (asks m b s t)) (roads_of roads one) ≡ Some v
      → Short v.charge (drive_all (plan_van (asks m b s t)) (roads_of roads other)) → BestBy (asks m b s t) one v
  better {v} w c d h =
      record {
        cleared = c;
        arrives = record { walk = w; drives = d };
        others = two (Else (asks m b s t) one v.charge) (inl refl) (inr h);
      }

  neither : {r : Refusal} → Reason (sized m) roads s t r → clear (asks m b s t) ≡ true
      → drive_all (plan_van (asks m b s t)) (roads_of roads one) ≡ None
      → drive_all (plan_van (asks m b s t)) (roads_of roads other) ≡ None
      → Says (Row.no_route m b s t (number_of r) (place_of r))
  neither why c d e =
      none_only (asks m b s t) c (two (λ ks. drive_all (plan_van (asks m b s t)) (roads_of roads ks) ≡ None) d e) _ why

-- no road leads back
back : {m b s t : ℕ} → t < s → clear (asks m b s t) ≡ true → Says (Row.no_route m b s t 17 0)
back {m} {b} {s} {t} h c =
    none_only (asks m b s t) c (λ ks w. no_way h w) NotJoined (not_joined (λ j. no_way h (way j.walk)))

-- from 1 to 1
only_stays : (ks : List ℕ) → Way 1 ks 1 → Else (asks 1000 0 1 1) [] 0 ks
only_stays ks stays = inl refl

-- ---- the other rows

drive_row : {q : DriveQuestion} {ks : List ℕ} {v : Van} {a x : ℕ} → drive_fault nodes roads q ks ≡ Ok tt
    → drive_all (van_of q) (roads_of roads ks) ≡ Some v → v.charge ≡ a → v.spilled ≡ x → DriveRow q ks a x
drive_row {v} e d a x =
    record {
      numbers = drive_numbers (Ok v);
      success = refl;
      arrival_is = a;
      spilled_is = x;
      allowed = Drives.arrives v e d;
    }

profile_row : {m s : ℕ} {ks : List ℕ} {p : Profile} {n t : ℕ} {z : ℤ}
    → profile_fault nodes roads (record { battery = pos m; source = s }) ks ≡ Ok tt
    → profile_of (sized m) (roads_of roads ks) ≡ Some p → p.need ≡ n → p.sum ≡ z → p.top ≡ t
    → Says (Row.profile m s ks n z t)
profile_row {m} {s} {ks} {p} e f n z t =
    subst (Profiles nodes roads (record { battery = pos m; source = s }) ks)
    (λ i. record { number = 0; place = 0; need = n i; sum = z i; top = t i }) (Profiles.known p e f)

-- ---- the table

-- row by row in the table's order. What is worked out: the tests, the drive by the walk named, and that the other walk falls
-- short
pub table_holds : TableHolds
unfolding drive_all drive driven drive_fault profile_fault first_from road_fault potential_fault place_fault profile_of followed_by one_road
table_holds = (
  best_row (better to_3 hill_3 refl refl tt) refl,
  (
    best_row (better to_3 hill_3 refl refl tt) refl,
    (
      neither to_3 (more_charge charges.to_3.at_0) refl refl refl,
      (
        best_row (better to_2 hill_2 refl refl (omega arith)) refl,
        (
          best_row (better to_2_flat flat_2 refl refl tt) refl,
          (
            best_row (better to_2_flat flat_2 refl refl tt) refl,
            (
              neither to_2 (more_charge charges.to_2.at_0) refl refl refl,
              (
                best_row (record { cleared = refl; arrives = record { walk = stay; drives = refl }; others = only_stays }) refl,
                (
                  best_row (better to_3 hill_3 refl refl tt) refl,
                  (
                    neither to_3 (never_enough charges.at_899.at_0 (record { by = _; walk = hill_3 })) refl refl refl,
                    (
                      back (omega arith) refl,
                      (
                        drive_row refl refl refl refl,
                        (
                          profile_row refl refl refl refl refl,
                          tt,
                        ),
                      ),
                    ),
                  ),
                ),
              ),
            ),
          ),
        ),
      ),
    ),
  ),
)

-- ---- one unit more

pub one_more_brings_301 : OneMoreBrings301
unfolding drive_all drive driven
one_more_brings_301 list a b xs ys h p q =
    let x = best_arrival (better to_2_flat flat_2 refl refl tt) list h p in
    let y = best_arrival (better to_2 hill_2 refl refl (omega arith)) list h q in
    omega arith
