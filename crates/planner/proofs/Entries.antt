-- From the tests and the route's outcome to the promises of drive and profile. Assumes nothing.
use Rattle.std.specs.Prelude.{Err, Ok, Result}
use mathlib.Core.Path.{◌≡◌, ap, ◌∙◌}
use mathlib.Core.Bool.{true}
use mathlib.Core.List.{List}
use Prim.Native.Nat.{ℕ}
use native.Mathlib.Omega.{arith}
use lib.IntN.{ℤ}
use lib.ListN.{length}
use Rattle.numbers.specs.Signed.{draw}
use Rattle.refusals.specs.Order.{first, Checked}
use Rattle.refusals.specs.declared.Refusal.{Refusal}
use Rattle.battery.specs.Drive.{fresh}
use Rattle.network.proofs.Records.{all_ranged}
use Rattle.network.specs.Check.{records_fault}
use Rattle.routes.specs.Places.{drive_faults, profile_faults}
use Rattle.routes.specs.Steps.{DriveAsks, DriveKeeps, ProfileAsks, ProfileKeeps}
use Rattle.promises.proofs.Passed.{battery_whole, start_whole, drive_passed, profile_passed}
use Rattle.promises.specs.Given.{drive_numbers, profile_numbers}
use Rattle.promises.specs.Order.{is_start, battery_of, van_of, drive_asked, drive_fault, profile_asked, profile_fault}
use Rattle.promises.specs.Passed.{RoutePassed}
use Rattle.promises.specs.Promises.{Drives, Profiles}
use Rattle.promises.specs.declared.DriveQuestion.{DriveQuestion}
use Rattle.promises.specs.declared.ProfileQuestion.{ProfileQuestion}
use Rattle.battery.specs.declared.Van.{Van}
use Rattle.battery.specs.declared.Profile.{Profile}

-- what the drive of a route asks for
pub sets_out : (ns rs es : List ℕ) (m b : ℤ) → RoutePassed ns rs m (length es) → is_start m b ≡ true
    → DriveAsks rs es (fresh (battery_of m) (draw b))
sets_out ns rs es m b p s =
    record {
      roads_ranged = record { ranged = all_ranged ns rs p.files.records_ok };
      entries_le = p.entries_le;
      bounded =
          record {
            battery_le = (battery_whole m p.battery_ok).draw_le;
            charge_le = (start_whole m b p.battery_ok s).1;
            drawn_le = omega arith;
            recovered_le = omega arith;
            spilled_le = omega arith;
          };
    }

module _ (ns rs : List ℕ) (q : DriveQuestion) (es : List ℕ) where
  -- the tests before the route
  abbrev pub drive_tests : Checked
  drive_tests = first (drive_asked ns rs q (length es)) (records_fault ns rs)

  fault_is : {x : Checked} → drive_tests ≡ x → drive_fault ns rs q es ≡ first x (drive_faults rs q.source es (van_of q))
  unfolding drive_fault
  fault_is e = ap (λ (y : Checked). first y (drive_faults rs q.source es (van_of q))) e

  pub drive_refused : {r : Refusal} → drive_tests ≡ Err r → Drives ns rs q es (drive_numbers (Err r))
  drive_refused {r} e = Drives.refused r (fault_is e)

  pub drive_asks : drive_tests ≡ Ok tt → DriveAsks rs es (van_of q)
  drive_asks e = let p = drive_passed ns rs q (length es) e in sets_out ns rs es q.battery q.start p.0 p.1

  pub drive_kept : drive_tests ≡ Ok tt → (d : Result Van Refusal) → DriveKeeps rs es q.source (van_of q) d → Drives ns rs q es (drive_numbers d)
  drive_kept e (Ok v) k = Drives.arrives v (fault_is e ∙ k.0) k.1
  drive_kept e (Err r) k = Drives.refused r (fault_is e ∙ k)

module _ (ns rs : List ℕ) (q : ProfileQuestion) (es : List ℕ) where
  abbrev pub profile_tests : Checked
  profile_tests = first (profile_asked ns rs q (length es)) (records_fault ns rs)

  profile_is : {x : Checked} → profile_tests ≡ x
      → profile_fault ns rs q es ≡ first x (profile_faults rs q.source es (battery_of q.battery))
  unfolding profile_fault
  profile_is e = ap (λ (y : Checked). first y (profile_faults rs q.source es (battery_of q.battery))) e

  pub profile_refused : {r : Refusal} → profile_tests ≡ Err r → Profiles ns rs q es (profile_numbers (Err r))
  profile_refused {r} e = Profiles.refused r (profile_is e)

  pub profile_asks : profile_tests ≡ Ok tt → ProfileAsks rs es (battery_of q.battery)
  profile_asks e =
      let p = profile_passed ns rs q (length es) e in
      record {
        roads_ranged = record { ranged = all_ranged ns rs p.files.records_ok };
        entries_le = p.entries_le;
        battery_le = (battery_whole q.battery p.battery_ok).draw_le;
      }

  pub profile_kept : profile_tests ≡ Ok tt → (d : Result Profile Refusal) → ProfileKeeps rs es q.source (battery_of q.battery) d
      → Profiles ns rs q es (profile_numbers d)
  profile_kept e (Ok p) k = Profiles.known p (profile_is e ∙ k.0) k.1
  profile_kept e (Err r) k = Profiles.refused r (profile_is e ∙ k)
