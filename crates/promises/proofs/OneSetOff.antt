-- The charges to set off with: one possible outcome, and the depot's number is 0. Assumes nothing.
use Rattle.std.specs.Prelude.{Err}
use mathlib.Core.Path.{◌≡◌, refl, ap, ◌∙◌, sym}
use mathlib.Core.List.{List}
use Prim.Native.Nat.{ℕ, ◌<◌}
use native.Mathlib.Decide.{dec_lt}
use native.Mathlib.Omega.{arith}
use lib.IntN.{ℤ, pos}
use lib.Seq.{ext_get_or}
use Rattle.refusals.proofs.Faults.{same_refusal, not_both}
use Rattle.refusals.proofs.Early.{number_pos}
use Rattle.battery.specs.declared.Battery.{Battery}
use Rattle.journeys.proofs.SetOff.{one_number, depot_number}
use Rattle.network.specs.Files.{junctions}
use Rattle.refusals.specs.declared.Refusal.{Refusal}
use Rattle.promises.specs.Given.{check_numbers}
use Rattle.promises.specs.ClaimsSetOff.{OneSetOff, DepotHasZero}
use Rattle.promises.specs.Promises.{number_at, Numbered, SetsOff}
use Rattle.promises.proofs.Passed.{set_off_passed}

module _ {ns rs : List ℕ} {B : Battery} {depot : ℕ} {list xs ys : List ℤ} (a : Numbered ns rs B depot list xs) (b : Numbered ns rs B depot list ys) where
  same_number : (i : ℕ) → Dec (i < junctions ns) → number_at xs i ≡ number_at ys i
  same_number i (yes h) = one_number B rs i depot _ _ (a.numbers i h) (b.numbers i h)
  same_number i (no h) = a.past i (omega arith) ∙ sym (b.past i (omega arith))

  same_numbers : xs ≡ ys
  same_numbers = ext_get_or (pos 0) xs ys (a.long ∙ sym b.long) (λ i h. same_number i (dec_lt i (junctions ns)))

pub one_set_off : OneSetOff
one_set_off ns rs q list a b xs ys (SetsOff.refused r e) (SetsOff.refused s f) =
    (ap (λ (x : Refusal). check_numbers (Err x)) (same_refusal e f), refl)
one_set_off ns rs q list a b xs ys (SetsOff.refused r e) (SetsOff.known f n) = not_both f e
one_set_off ns rs q list a b xs ys (SetsOff.known e n) (SetsOff.refused s f) = not_both e f
one_set_off ns rs q list a b xs ys (SetsOff.known e n) (SetsOff.known f m) = (refl, same_numbers n m)

pub depot_has_zero : DepotHasZero
depot_has_zero ns rs q list a xs (SetsOff.refused r e) z = let p = number_pos r in absurd (omega arith)
depot_has_zero ns rs q list a xs (SetsOff.known e n) z =
    one_number _ rs q.depot q.depot _ _ (n.numbers q.depot (set_off_passed ns rs q _ e).depot_in)
    (depot_number _ rs q.depot)
