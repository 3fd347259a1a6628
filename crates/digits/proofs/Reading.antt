-- A line of numbers, read one by one. Assumes nothing.
use mathlib.Core.Path.{◌≡◌, sym, ap, ◌∙◌, subst}
use mathlib.Core.Bool.{Bool, true, false, cond}
use mathlib.Core.List.{List, [], ◌∷◌, ◌++◌, append_assoc}
use Prim.Native.Nat.{ℕ, suc, ◌+◌, ◌-◌, ◌≤◌, ◌<◌}
use native.Mathlib.Decide.{dec_lt}
use native.Mathlib.Numerals.{add-one}
use native.Mathlib.Omega.{arith}
use borrow.Author.Tests.{lt-ltb, le-ltb}
use lib.Dec.{ltb}
use lib.ListN.{length, take, drop, get_or, set, length-drop, length-set}
use lib.Seq.{drop-cons, take_all, take-suc-set}
use Rattle.digits.specs.Line.{space, newline, Line, last, then}
use Rattle.digits.specs.Taking.{NoDigit, Takes, NoNumber, NoLine}
use Rattle.digits.proofs.Spelled.{cut}

-- the byte after a number of the line: a space where there are more, and after the last a newline
abbrev pub end_of : Bool → ℕ
end_of more = cond more space newline

pub no_digit_end : (more : Bool) → NoDigit (end_of more)
no_digit_end true lo hi = omega arith
no_digit_end false lo hi = omega arith

-- ---- a line by its first number: the digits, the byte e after them, the other numbers
record Leads (e n : ℕ) (ns s : List ℕ) : Type 0 where
  pub rest : List ℕ
  pub first : Takes s e n rest
  pub others : 0 < length ns → Line ns rest

leads : {n : ℕ} {ns s : List ℕ} → Line (n ∷ ns) s → Leads (end_of (ltb 0 (length ns))) n ns s
leads (last t rest a e) = record { rest = rest; first = record { text = t; number = a; there = e }; others = λ h. absurd (omega arith) }
leads (then {m} {ns} t rest a e more) =
    let some = lt-ltb 0 (length (m ∷ ns)) (omega arith) in
    record { rest = rest; first = record { text = t; number = a; there = rw some e }; others = λ h. more }

follows : {n : ℕ} {ns s rest : List ℕ} → Takes s space n rest → Line ns rest → Line (n ∷ ns) s
follows {rest} p (last u x b f) = then p.text rest p.number p.there (last u x b f)
follows {rest} p (then u x b f more) = then p.text rest p.number p.there (then u x b f more)

-- ---- the first i of `count` numbers are in the list ns, and the bytes `rest` follow them
module _ (line : List ℕ) (count : ℕ) where
  -- a line of the others from there on makes the whole, and whatever the whole is, its others are a line from there on
  pub record Going (ns : List ℕ) (i : ℕ) (rest : List ℕ) : Type 0 where
    pub joins : (ms : List ℕ) → Line ms rest → Line (take i ns ++ ms) line
    pub cuts : (ms : List ℕ) → length ms ≡ count → Line ms line → Line (drop i ms) rest

  pub record Reading (ns : List ℕ) (i : ℕ) (rest : List ℕ) : Type 0 where
    pub long : length ns ≡ count
    pub going : i < count → Going ns i rest
    pub whole : 0 < i → count ≤ i → Line ns line

  -- the byte after the number at i is told by how many are left
  end_left : (i left : ℕ) → left ≡ count - suc i → end_of (ltb 0 left) ≡ end_of (ltb (i + 1) count)
  end_left i left e = ap end_of (go (dec_lt (i + 1) count))
    where
      go : Dec (i + 1 < count) → ltb 0 left ≡ ltb (i + 1) count
      go (yes h) = lt-ltb 0 left (omega arith) ∙ sym (lt-ltb (i + 1) count h)
      go (no h) = le-ltb 0 left (omega arith) ∙ sym (le-ltb (i + 1) count (omega arith))

  -- the rest begins with the number at i of any line of so many numbers
  at_place : {ns rest : List ℕ} {i e : ℕ} → Reading ns i rest → i < count → e ≡ end_of (ltb (i + 1) count)
      → (ms : List ℕ) → length ms ≡ count → Line ms line → Leads e (get_or ms i 0) (drop (suc i) ms) rest
  at_place {rest} {i} r h e ms l m =
      let inside : i < length ms = omega arith in
      let here = rw (drop-cons ms i 0 inside) at ((r.going h).cuts ms l m) in
      let left : length (drop (suc i) ms) ≡ count - suc i = length-drop (suc i) ms ∙ ap (λ (n : ℕ). n - suc i) l in
      subst (λ (b : ℕ). Leads b (get_or ms i 0) (drop (suc i) ms) rest) (end_left i _ left ∙ sym e) (leads here)

  pub reading_stuck : {ns rest : List ℕ} {i e : ℕ} → Reading ns i rest → i < count → e ≡ end_of (ltb (i + 1) count)
      → NoNumber rest e → NoLine line count
  reading_stuck {i} r h e none ms l m = let p = at_place r h e ms l m in none (get_or ms i 0) p.rest p.first

  pub reading_more : {ns rest after : List ℕ} {i e n : ℕ} → Reading ns i rest → i < count → e ≡ end_of (ltb (i + 1) count)
      → Takes rest e n after → Reading (set ns i n) (i + 1) after
  reading_more {ns} {rest} {after} {i} {e} {n} r h is p =
      record {
        long = length-set ns i n ∙ r.long;
        going = λ more. record { joins = joins more; cuts = cuts more };
        whole = λ some full. whole full;
      }
    where
      put : take (suc i) (set ns i n) ≡ take i ns ++ (n ∷ [])
      put = take-suc-set ns i n (omega (arith, r.long))

      joins : i + 1 < count → (ms : List ℕ) → Line ms after → Line (take (i + 1) (set ns i n) ++ ms) line
      joins more ms m =
          let space_ends : e ≡ space = is ∙ ap end_of (lt-ltb (i + 1) count more) in
          let from_here = follows (rw space_ends at p) m in
          rw (add-one i, put, append_assoc) ((r.going h).joins (n ∷ ms) from_here)

      cuts : i + 1 < count → (ms : List ℕ) → length ms ≡ count → Line ms line → Line (drop (i + 1) ms) after
      cuts more ms len m =
          let q = at_place r h is ms len m in
          let ended : NoDigit e = rw is (no_digit_end (ltb (i + 1) count)) in
          let same = cut e e q.rest after q.first.number.digits p.number.digits ended ended (sym q.first.there ∙ p.there) in
          let left = length-drop (suc i) ms in
          rw (add-one i) (subst (Line (drop (suc i) ms)) same.rest (q.others (omega arith)))

      whole : count ≤ i + 1 → Line (set ns i n) line
      whole full =
          let newline_ends : e ≡ newline = is ∙ ap end_of (le-ltb (i + 1) count full) in
          let ended = rw newline_ends at p in
          let all : set ns i n ≡ take i ns ++ (n ∷ []) =
          sym (take_all (suc i) (set ns i n) (omega (arith, length-set ns i n, r.long))) ∙ put in
          rw all ((r.going h).joins (n ∷ []) (last ended.text after ended.number ended.there))
