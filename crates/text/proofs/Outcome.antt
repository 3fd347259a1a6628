-- The text of an answer, once it is known for a success or a refusal. Assumes nothing.
use mathlib.Core.Path.{◌≡◌}
use mathlib.Core.List.{List}
use Prim.Native.Nat.{ℕ, ◌<◌}
use native.Mathlib.Omega.{arith}
use borrow.Author.Tests.{eq-eqb, ne_eqb}
use Rattle.text.specs.Answer.{outcome_text, refused_text}

module _ (Writes : List ℕ → Type 0) (number place : ℕ) (success : List ℕ) (writes : Writes (outcome_text number place success)) where
  pub writes_success : number ≡ 0 → Writes success
  writes_success z = simp (eq-eqb number 0 z) at writes

  pub writes_refused : 0 < number → Writes (refused_text number place)
  writes_refused p = simp (ne_eqb number 0 (λ z. omega arith)) at writes
