-- The lines of a list of items, put one after another. Assumes nothing.
use mathlib.Core.Path.{◌≡◌, sym, ap, ◌∙◌}
use mathlib.Core.List.{List, [], ◌∷◌, ◌++◌, append_assoc, append-nil}
use Prim.Native.Nat.{ℕ, ◌+◌, ◌*◌, ◌≤◌, ◌<◌}
use native.Mathlib.Nat.{mul-add}
use native.Mathlib.Numerals.{add-one}
use native.Mathlib.Omega.{arith}
use lib.ListN.{length, take, get_or}
use lib.Seq.{take-suc}
use Rattle.digits.specs.declared.Text.{Text}
use Rattle.digits.specs.Puts.{Puts, PutsFew}
use Rattle.digits.proofs.Writing.{puts_none, puts_then, puts_as}
use Rattle.text.specs.Answer.{item_lines}

-- each item on a line of at most so many bytes
module _ {A : Type 0} (line : A → List ℕ) (most : ℕ) where
  -- the lines of the first i items are put behind the text x
  pub record Listing (x : Text) (items : List A) (x' : Text) (i : ℕ) : Type 0 where
    pub some : i ≤ length items
    pub short : x'.len ≤ x.len + most * i
    pub puts : Puts x (item_lines line (take i items)) x'

  pub listing_none : (x : Text) (items : List A) → Listing x items x 0
  unfolding item_lines
  listing_none x items = record { some = omega arith; short = omega arith; puts = puts_none x }

  lines_snoc : (xs : List A) (a : A) → item_lines line (xs ++ (a ∷ [])) ≡ item_lines line xs ++ line a
  unfolding item_lines
  lines_snoc [] a = append-nil (line a)
  lines_snoc (y ∷ xs) a =
      ap (λ (t : List ℕ). line y ++ t) (lines_snoc xs a) ∙ sym (append_assoc (line y) (item_lines line xs) (line a))

  pub listing_more : {x : Text} {items : List A} {x' x'' : Text} {i : ℕ} (a : A) → Listing x items x' i → i < length items
      → a ≡ get_or items i a → PutsFew most x' (line a) x'' → Listing x items x'' (i + 1)
  listing_more {items} {i} a p h e q =
      let b : take (i + 1) items ≡ take i items ++ (a ∷ []) =
      ap (λ (k : ℕ). take k items) (add-one i) ∙ take-suc items i a h ∙ ap (λ (y : A). take i items ++ (y ∷ [])) (sym e) in
      let m = mul-add most i 1 in
      let y = p.short in
      let few = q.few in
      record {
        some = omega arith;
        short = omega arith;
        puts = puts_as (sym (ap (item_lines line) b ∙ lines_snoc (take i items) a)) (puts_then p.puts q.puts);
      }
