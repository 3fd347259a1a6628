-- Text put into the buffer, text after text. Assumes nothing.
use mathlib.Core.Path.{◌≡◌, refl, sym, ap, ◌∙◌, subst}
use mathlib.Core.List.{List, [], ◌++◌, append_assoc, append-nil}
use Prim.Native.Nat.{ℕ}
use native.Mathlib.Nat.{add-zero}
use native.Mathlib.Omega.{arith}
use lib.ListN.{length-append}
use Rattle.digits.specs.declared.Text.{Text}
use Rattle.digits.specs.Puts.{bytes, Puts}

-- nothing, and one text after another
pub puts_none : (x : Text) → Puts x [] x
puts_none x = record { same_reference = refl; same_room = refl; len = sym (add-zero x.len); text = sym (append-nil (bytes x)) }

pub puts_then : {x x' x'' : Text} {t u : List ℕ} → Puts x t x' → Puts x' u x'' → Puts x (t ++ u) x''
puts_then {x} {t} {u} p q =
    let l = length-append t u in
    let a = p.len in
    let b = q.len in
    record {
      same_reference = q.same_reference ∙ p.same_reference;
      same_room = q.same_room ∙ p.same_room;
      len = omega arith;
      text = q.text ∙ ap (λ (y : List ℕ). y ++ u) p.text ∙ append_assoc (bytes x) t u;
    }

-- the same text, told otherwise
pub puts_as : {x x' : Text} {t u : List ℕ} → t ≡ u → Puts x t x' → Puts x u x'
puts_as {x} {x'} e p = subst (λ (t : List ℕ). Puts x t x') e p
