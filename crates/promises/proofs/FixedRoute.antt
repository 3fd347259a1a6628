-- Demand 3 on one fixed route, of the outcomes of the drive entry. Two queries, each with files and a list of road numbers
-- of its own, whose roads agree place by place in ends and consumption. Assumes nothing.
use Rattle.std.specs.Prelude.{Err, None, Ok}
use mathlib.Core.Path.{◌≡◌, refl, sym, ap, ◌∙◌}
use mathlib.Core.List.{List}
use mathlib.Core.Logic.{◌⊎◌, inl, inr}
use Prim.Native.Nat.{ℕ}
use native.Mathlib.Omega.{arith}
use lib.ListN.{length}
use Rattle.numbers.proofs.Diff.{draw_mono}
use Rattle.numbers.specs.Signed.{draw}
use Rattle.battery.proofs.Monotone.{fixed_route}
use Rattle.battery.specs.Claims.{Rises}
use Rattle.battery.specs.Drive.{drive_all}
use Rattle.battery.specs.declared.Van.{Van}
use Rattle.refusals.proofs.Early.{Early, kind, early_kind, number_pos}
use Rattle.refusals.specs.Order.{first, Checked}
use Rattle.network.specs.Check.{records_fault}
use Rattle.refusals.specs.Refusals.{number_of}
use Rattle.journeys.specs.Walks.{roads_of}
use Rattle.refusals.specs.declared.Refusal.{Refusal}
use Rattle.routes.proofs.Low.{low_route}
use Rattle.routes.specs.Places.{drive_faults}
use Rattle.promises.specs.Claims.{NoLess, FixedRoute}
use Rattle.promises.specs.Given.{drive_numbers}
use Rattle.promises.specs.Order.{battery_of, van_of, drive_asked, drive_fault}
use Rattle.promises.specs.Promises.{Drives}
use Rattle.promises.specs.declared.DriveNumbers.{DriveNumbers}
use Rattle.promises.specs.declared.DriveQuestion.{DriveQuestion}
use Rattle.promises.proofs.Early.{drive_early}

-- ---- the tests before the route give no 14

-- a drive refused with 14 is refused at its route, which cannot be driven
low_drive : (ns rs : List ℕ) (q : DriveQuestion) (es : List ℕ) {r : Refusal} → number_of r ≡ 14
    → drive_fault ns rs q es ≡ Err r → drive_all (van_of q) (roads_of rs es) ≡ None
unfolding drive_fault
low_drive ns rs q es {r} n e = go (first (drive_asked ns rs q (length es)) (records_fault ns rs)) (drive_early ns rs q (length es)) e
  where
    go : (x : Checked) → Early x → first x (drive_faults rs q.source es (van_of q)) ≡ Err r
        → drive_all (van_of q) (roads_of rs es) ≡ None
    go (Ok tt) p h = low_route rs q.source es (van_of q) n h
    go (Err s) p h =
        let z : ◌≡◌ {A = ℕ} 0 1 = cc (early_kind p h, ap kind n) in
        absurd (omega arith)

-- ---- two queries

second : {ns rs : List ℕ} {q q' : DriveQuestion} {es : List ℕ} {v : Van} {b : DriveNumbers} → Drives ns rs q' es b
    → Rises (battery_of q.battery) (battery_of q'.battery) (draw q.start) (draw q'.start) (roads_of rs es) v
    → (b.number ≡ 0) ⊎ (b.number ≡ 14) → NoLess q q' (drive_numbers (Ok v)) b
second (Drives.refused r f) t (inl z) = absurd (omega (arith, number_pos r))
second {ns} {rs} {q'} {es} (Drives.refused r f) t (inr n) =
    let z : ◌≡◌ {A = ℕ} 0 1 = cc (low_drive ns rs q' es n f, t.drives) in
    absurd (omega arith)
second (Drives.arrives w f h) t n =
    let e : t.second ≡ w = cc t.drives in
    let k = ap (λ (u : Van). u.charge) e in
    record { drivable = refl; no_less = omega (arith, t.no_less); at_most = omega (arith, t.at_most) }

pub fixed_drive : FixedRoute
fixed_drive ns rs ns' rs' q q' es es' a b (Drives.refused r e) d same m s z n = absurd (omega (arith, number_pos r))
fixed_drive ns rs ns' rs' q q' es es' a b (Drives.arrives v e g) d same m s z n =
    let h = ap (drive_all (van_of q)) (sym same) ∙ g in
    let battery_le = draw_mono q.battery q'.battery m in
    let start_le = draw_mono q.start q'.start s in
    second d (fixed_route _ _ _ _ (roads_of rs' es') v battery_le start_le h) n
