-- From what set off gives back to what is written. Assumes nothing.
use Rattle.std.specs.Prelude.{Err, Ok}
use mathlib.Core.Path.{◌≡◌, ap, ◌∙◌}
use mathlib.Core.List.{List}
use Prim.Native.Nat.{ℕ, ◌≤◌}
use native.Mathlib.Omega.{arith}
use lib.IntN.{ℤ}
use lib.ListN.{length, take}
use Rattle.refusals.proofs.Early.{number_pos}
use Rattle.network.specs.Files.{junctions, most_junctions}
use Rattle.refusals.specs.Refusals.{number_of}
use Rattle.refusals.specs.Order.{Checked}
use Rattle.refusals.specs.declared.Refusal.{Refusal}
use Rattle.promises.specs.Given.{check_numbers}
use Rattle.promises.specs.declared.CheckNumbers.{CheckNumbers}
use Rattle.promises.proofs.Passed.{set_off_passed}
use Rattle.promises.specs.Promises.{SetsOff}
use Rattle.promises.specs.declared.SetOffQuestion.{SetOffQuestion}
use Rattle.text.proofs.Outcome.{writes_success, writes_refused}
use Rattle.text.specs.Answer.{set_off_text, signed_lines, refused_text}
use Rattle.setoff.specs.Response.{question, Writes}

-- there is an entry for each junction
few : {ns rs : List ℕ} {q : SetOffQuestion} {list xs : List ℤ} {a : CheckNumbers} → SetsOff ns rs q list a xs → a.number ≡ 0
    → junctions ns ≤ most_junctions
few (SetsOff.refused r f) z = let p = number_pos r in absurd (omega arith)
few {ns} {rs} {q} {list} (SetsOff.known f n) z = (set_off_passed ns rs q (length list) f).files.few

module _ {ns rs : List ℕ} {list xs : List ℤ} {q : SetOffQuestion} (answer : Checked) (p : SetsOff ns rs q list (check_numbers answer) xs) where
  pub numbers_fit : answer ≡ Ok tt → junctions ns ≤ most_junctions
  numbers_fit e = few p (ap (λ (a : Checked). (check_numbers a).number) e)

  -- the text, by the numbers that the answer gives for the numbers ms of the line
  module _ {ms : List ℕ} {given : CheckNumbers} (asks : q ≡ question ms) (long : length list ≡ most_junctions) (g : given ≡ check_numbers answer) where
    writes : Writes ms ns rs (set_off_text given (junctions ns) xs)
    writes = let p' = rw asks at p in Writes.outcome list xs given long (rw g p')

    pub writes_charges : answer ≡ Ok tt → Writes ms ns rs (signed_lines (take (junctions ns) xs))
    writes_charges e =
        let number = ap (λ (a : CheckNumbers). a.number) (g ∙ ap check_numbers e) in
        writes_success (Writes ms ns rs) given.number given.place _ writes number

    pub writes_refusal : {r : Refusal} → answer ≡ Err r → Writes ms ns rs (refused_text given.number given.place)
    writes_refusal {r} e =
        let number : given.number ≡ number_of r = ap (λ (a : CheckNumbers). a.number) (g ∙ ap check_numbers e) in
        writes_refused (Writes ms ns rs) given.number given.place _ writes (omega (arith, number_pos r))
