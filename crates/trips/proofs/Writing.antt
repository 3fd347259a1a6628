-- A trail counted and written, road by road from its end. Assumes nothing.
use mathlib.Core.Path.{◌≡◌, refl, sym, ap, ◌∙◌, subst}
use mathlib.Core.List.{List, [], ◌∷◌, ◌++◌}
use mathlib.Core.Logic.{◌≢◌}
use Prim.Native.Nat.{ℕ, suc, ◌+◌, ◌-◌, ◌≤◌, ◌<◌}
use native.Mathlib.Decide.{ℕ_discrete}
use native.Mathlib.Omega.{arith}
use lib.ListN.{length, set, take, drop, length-set, take-append-drop}
use Rattle.lists.proofs.Stores.{set_take_end}
use Rattle.lists.specs.Lists.{entry}
use Rattle.walks.specs.Walk.{Roads}
use Rattle.search.specs.Trails.{Trail}
use Rattle.trips.specs.Ways.{TrailOf, Counted, WriteAsks, Written}
use Rattle.trips.proofs.Trailing.{further, at_source, trail_le, trail_one}

-- ---- the walk back: count roads lie behind v, and the rest is the same

pub record Walked (R : Roads) (ways : List ℕ) (s v count : ℕ) (ks : List ℕ) : Type 0 where
  pub behind : List ℕ
  pub count_is : count ≡ length behind
  pub trail : Trail R (entry ways) (length ways) s v behind ks

pub walked_more : {R : Roads} {ways : List ℕ} {s v count : ℕ} {ks : List ℕ} → Walked R ways s v count ks → v ≢ s
    → Walked R ways s (R.tail (entry ways v)) (count + 1) ks
walked_more {ways = ways} {v = v} w e =
    record {
      behind = entry ways v ∷ w.behind;
      count_is = omega (arith, w.count_is);
      trail = (further w.trail e).rest;
    }

-- ---- writing: the list is its first i entries, then the roads behind v, then the rest as it was

pub record Writing (R : Roads) (ways : List ℕ) (s v i : ℕ) (ks list list' : List ℕ) : Type 0 where
  pub walked : Walked R ways s v (length ks - i) ks
  pub low : i ≤ length ks
  pub list_is : list' ≡ take i list ++ (walked.behind ++ drop (length ks) list)

pub writing_none : {R : Roads} {ways : List ℕ} {s t : ℕ} {ks : List ℕ} (list : List ℕ) → TrailOf R ways s t ks
    → Writing R ways s t (length ks) ks list list
writing_none {ks = ks} list t =
    record {
      walked = record { behind = []; count_is = omega arith; trail = t };
      low = omega arith;
      list_is = sym (take-append-drop (length ks) list);
    }

pub writing_more : {R : Roads} {ways : List ℕ} {s v i : ℕ} {ks list list' : List ℕ} → Writing R ways s v i ks list list' → v ≢ s
    → i ≤ length list
    → Writing R ways s (R.tail (entry ways v)) (i - 1) ks list (set list' (i - 1) (entry ways v))
writing_more {ways = ways} {v = v} {i = i} {ks = ks} {list = list} {list' = list'} w e fits =
    let f = further w.walked.trail e in
    let pos : 0 < i = omega (arith, trail_le f.rest, w.walked.count_is, w.low) in
    let p : suc (i - 1) ≡ i = omega arith in
    record {
      walked =
          record {
            behind = entry ways v ∷ w.walked.behind;
            count_is = omega (arith, w.walked.count_is, w.low);
            trail = f.rest;
          };
      low = omega (arith, w.low);
      list_is =
          ap (λ (xs : List ℕ). set xs (i - 1) (entry ways v)) w.list_is
          ∙ ap (λ (m : ℕ). set (take m list ++ (w.walked.behind ++ drop (length ks) list)) (i - 1) (entry ways v)) (sym p)
          ∙ set_take_end list (w.walked.behind ++ drop (length ks) list) (i - 1) (entry ways v) (omega arith);
    }

pub writing_done : {R : Roads} {ways : List ℕ} {s v i : ℕ} {ks list list' : List ℕ} → Writing R ways s v i ks list list' → v ≡ s
    → list' ≡ ks ++ drop (length ks) list
writing_done {i = i} {ks = ks} {list = list} {list' = list'} w e =
    let q = at_source w.walked.trail e in
    let z : i ≡ 0 = omega (arith, w.walked.count_is, ap length q, w.low) in
    w.list_is
    ∙ ap (λ (m : ℕ). take m list ++ (w.walked.behind ++ drop (length ks) list)) z
    ∙ ap (λ (xs : List ℕ). xs ++ drop (length ks) list) q

-- ---- the loops

pub record CountLoop (R : Roads) (ways : List ℕ) (s t v count : ℕ) : Type 0 where
  pub by : List ℕ
  pub whole : TrailOf R ways s t by
  pub few : length by < length ways
  pub walked : Walked R ways s v count by

pub count_next : {R : Roads} {ways : List ℕ} {s t v u count : ℕ} → CountLoop R ways s t v count → v ≢ s → u ≡ R.tail (entry ways v)
    → CountLoop R ways s t u (count + 1)
count_next {R} {ways} {s} {t} {count = count} l e p =
    record {
      by = l.by;
      whole = l.whole;
      few = l.few;
      walked = subst (λ (w : ℕ). Walked R ways s w (count + 1) l.by) (sym p) (walked_more l.walked e);
    }

pub count_done : {R : Roads} {ways : List ℕ} {s t v count : ℕ} → CountLoop R ways s t v count → v ≡ s → Counted R ways s t count
count_done l e ks trail =
    l.walked.count_is ∙ ap length (at_source l.walked.trail e ∙ trail_one l.whole trail)

pub record WriteLoop (R : Roads) (ways : List ℕ) (s t v i : ℕ) (list list' : List ℕ) : Type 0 where
  pub by : List ℕ
  pub whole : TrailOf R ways s t by
  pub fits : length by ≤ length list
  pub long : length list' ≡ length list
  pub writing : Writing R ways s v i by list list'

pub write_start : {R : Roads} {ways : List ℕ} {s t count : ℕ} {list : List ℕ} → WriteAsks R ways s t count list
    → WriteLoop R ways s t t count list list
write_start {R} {ways} {s} {t} {count} {list} a =
    let ks = a.trailed.by in
    record {
      by = ks;
      whole = a.trailed.trail;
      fits = omega (arith, a.fits, a.count_is);
      long = refl;
      writing = subst (λ (i : ℕ). Writing R ways s t i ks list list) (sym a.count_is) (writing_none list a.trailed.trail);
    }

-- as long as there are places left, the walk has not come to the source
pub write_on : {R : Roads} {ways : List ℕ} {s t v i : ℕ} {list list' : List ℕ} → WriteLoop R ways s t v i list list' → 0 < i → v ≢ s
write_on l h e =
    let w = l.writing in
    omega (arith, ap length (at_source w.walked.trail e), w.walked.count_is, w.low)

pub write_next : {R : Roads} {ways : List ℕ} {s t v u i : ℕ} {list list' : List ℕ} → WriteLoop R ways s t v i list list' → v ≢ s
    → u ≡ R.tail (entry ways v) → WriteLoop R ways s t u (i - 1) list (set list' (i - 1) (entry ways v))
write_next {R} {ways} {s} {t} {v} {i = i} {list} {list'} l e p =
    record {
      by = l.by;
      whole = l.whole;
      fits = l.fits;
      long = length-set list' (i - 1) (entry ways v) ∙ l.long;
      writing =
          subst (λ (w : ℕ). Writing R ways s w (i - 1) l.by list (set list' (i - 1) (entry ways v))) (sym p)
          (writing_more l.writing e (omega (arith, l.fits, l.writing.low)));
    }

-- and then it has
write_done : {R : Roads} {ways : List ℕ} {s t v i : ℕ} {list list' : List ℕ} → WriteLoop R ways s t v i list list' → i ≡ 0 → v ≡ s
write_done {s = s} {v = v} l z = go (ℕ_discrete v s)
  where
    go : Dec (v ≡ s) → v ≡ s
    go (yes e) = e
    go (no e) =
        let w = l.writing.walked in
        absurd (omega (arith, trail_le (further w.trail e).rest, w.count_is))

pub written : {R : Roads} {ways : List ℕ} {s t v i : ℕ} {list list' : List ℕ} → WriteLoop R ways s t v i list list' → i ≡ 0
    → Written R ways s t list list'
written {list = list} l z ks trail =
    writing_done l.writing (write_done l z) ∙ ap (λ (xs : List ℕ). xs ++ drop (length xs) list) (trail_one l.whole trail)
