-- Each promise leaves one possible outcome: any two outcomes allowed on the same input are equal. Assumes nothing.
use Rattle.std.specs.Prelude.{Err, Ok}
use mathlib.Core.Path.{◌≡◌, refl, ap}
use Rattle.battery.specs.declared.Profile.{Profile}
use Rattle.battery.specs.declared.Van.{Van}
use Rattle.refusals.specs.declared.Refusal.{Refusal}
use Rattle.refusals.proofs.Faults.{same_refusal, not_both}
use Rattle.promises.specs.Claims.{OneCheck, OneDrive, OneProfile}
use Rattle.promises.specs.Given.{check_numbers, drive_numbers, profile_numbers}
use Rattle.promises.specs.Promises.{Checks, Drives, Profiles}

pub one_check : OneCheck
one_check ns rs a b (Checks.refused r e) (Checks.refused s f) =
    ap (λ (x : Refusal). check_numbers (Err x)) (same_refusal e f)
one_check ns rs a b (Checks.refused r e) (Checks.sound f) = not_both f e
one_check ns rs a b (Checks.sound e) (Checks.refused s f) = not_both e f
one_check ns rs a b (Checks.sound e) (Checks.sound f) = refl

pub one_drive : OneDrive
one_drive ns rs q es a b (Drives.refused r e) (Drives.refused s f) =
    ap (λ (x : Refusal). drive_numbers (Err x)) (same_refusal e f)
one_drive ns rs q es a b (Drives.refused r e) (Drives.arrives w f h) = not_both f e
one_drive ns rs q es a b (Drives.arrives v e g) (Drives.refused s f) = not_both e f
one_drive ns rs q es a b (Drives.arrives v e g) (Drives.arrives w f h) =
    let p : v ≡ w = cc in
    ap (λ (u : Van). drive_numbers (Ok u)) p

pub one_profile : OneProfile
one_profile ns rs q es a b (Profiles.refused r e) (Profiles.refused s f) =
    ap (λ (x : Refusal). profile_numbers (Err x)) (same_refusal e f)
one_profile ns rs q es a b (Profiles.refused r e) (Profiles.known p f h) = not_both f e
one_profile ns rs q es a b (Profiles.known p e g) (Profiles.refused s f) = not_both e f
one_profile ns rs q es a b (Profiles.known p e g) (Profiles.known p' f h) =
    let d : p ≡ p' = cc in
    ap (λ (u : Profile). profile_numbers (Ok u)) d
