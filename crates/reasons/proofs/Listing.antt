-- A junction that is marked and listed. Assumes nothing.
use mathlib.Core.Path.{◌≡◌, refl, sym, ap, ◌∙◌}
use mathlib.Core.List.{List}
use mathlib.Core.Logic.{◌≢◌}
use Prim.Native.Nat.{ℕ, suc, ◌+◌, ◌<◌}
use native.Mathlib.Decide.{ℕ_discrete}
use native.Mathlib.Omega.{arith}
use lib.ListN.{length, set, length-set}
use Rattle.lists.proofs.Stores.{set_put}
use Rattle.lists.proofs.Zeros.{zeros_put}
use Rattle.lists.specs.Lists.{entry, Put, zeros}
use Rattle.search.specs.Sizes.{most_places}
use Rattle.reasons.specs.Marks.{unmarked, Listed}

module _ (labels : List ℕ) (long : length labels ≡ most_places) {v : ℕ} (within : v < most_places) (none : entry labels v ≡ 0) where
  pub put_mark : Put (entry labels) (entry (set labels v 1)) v 1
  put_mark = set_put labels (omega arith) refl

  pub one_fewer : suc (unmarked (set labels v 1)) ≡ unmarked labels
  one_fewer =
      omega (
        arith,
        zeros_put put_mark none (omega arith) (length labels) (omega arith),
        ap (zeros (entry (set labels v 1))) (length-set labels v 1),
      )

  pub marked_new : 0 < entry (set labels v 1) v
  marked_new = omega (arith, put_mark.here)

  pub marked_still : (w : ℕ) → 0 < entry labels w → 0 < entry (set labels v 1) w
  marked_still w h = go (ℕ_discrete w v)
    where
      go : Dec (w ≡ v) → 0 < entry (set labels v 1) w
      go (yes e) = omega (arith, ap (entry labels) e)
      go (no e) = omega (arith, put_mark.rest w e)

  pub marked_before : (w : ℕ) → w ≢ v → 0 < entry (set labels v 1) w → 0 < entry labels w
  marked_before w e h = omega (arith, put_mark.rest w e)

  module _ (ways : List ℕ) {last : ℕ} (room : last < length ways) where
    put_way : Put (entry ways) (entry (set ways last v)) last v
    put_way = set_put ways room refl

    pub listed_before : (i : ℕ) → i < last → entry (set ways last v) i ≡ entry ways i
    listed_before i h = put_way.rest i (λ e. omega arith)

    pub listed_new : Listed labels ways last → Listed (set labels v 1) (set ways last v) (last + 1)
    listed_new l =
        record {
          few = omega (arith, one_fewer, l.counted);
          counted = omega (arith, one_fewer, l.counted, length-set labels v 1);
          each = λ i h. each i h (ℕ_discrete i last);
          found = λ w h. found w h (ℕ_discrete w v);
        }
      where
        each : (i : ℕ) → i < last + 1 → Dec (i ≡ last) → 0 < entry (set labels v 1) (entry (set ways last v) i)
        each i h (yes e) =
            let w : entry (set ways last v) i ≡ v = ap (entry (set ways last v)) e ∙ put_way.here in
            omega (arith, ap (entry (set labels v 1)) w, marked_new)
        each i h (no e) =
            let w = listed_before i (omega arith) in
            omega (arith, ap (entry (set labels v 1)) w, marked_still (entry ways i) (l.each i (omega arith)))

        found : (w : ℕ) → 0 < entry (set labels v 1) w → Dec (w ≡ v) → (i : ℕ) × (i < last + 1) × (entry (set ways last v) i ≡ w)
        found w h (yes e) = (last, omega arith, put_way.here ∙ sym e)
        found w h (no e) =
            let f = l.found w (marked_before w e h) in
            (f.0, omega (arith, f.1), listed_before f.0 f.1 ∙ f.2)
