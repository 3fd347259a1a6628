-- How a program's response is made: of how it reads its numbers, and of what its own promise allows. Assumes nothing.
use mathlib.Core.Path.{◌≡◌, refl, sym, ◌∙◌}
use mathlib.Core.Bool.{Bool, true, false}
use mathlib.Core.List.{List}
use Prim.Native.Nat.{ℕ}
use lib.ListN.{length, take}
use Rattle.digits.specs.Line.{Line}
use Rattle.digits.specs.Puts.{Written}
use Rattle.digits.specs.Taking.{NoLine}
use Rattle.programs.specs.Program.{Program, Responds, bad_query, no_file}
use Rattle.programs.specs.Shared.{Answers}

module _ (P : Program) {n to : ℕ} {line out : List ℕ} (counts : P.count ≡ n) where
  -- `bad query`
  pub responds_bad : {files : Bool} {ns rs : List ℕ} → NoLine line n → Written bad_query out to
      → Responds P line files ns rs (take to out)
  responds_bad none w = rw w.text (Responds.bad (λ ms l m. none ms (l ∙ counts) m))

  -- `no file`
  pub responds_none : {ms ns rs : List ℕ} → length ms ≡ n → Line ms line → Written no_file out to
      → Responds P line false ns rs (take to out)
  responds_none {ms} l m w = rw w.text (Responds.none ms (l ∙ sym counts) m refl)

  -- what the program's own promise allows
  pub responds_answered : {ms ns rs : List ℕ} → length ms ≡ n → Line ms line → Answers P ms ns rs out to
      → Responds P line true ns rs (take to out)
  responds_answered {ms} l m a = rw a.written.text (Responds.answered ms (l ∙ sym counts) m refl a.allowed)
