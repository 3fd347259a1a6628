-- What came stands after what had come.
use Rattle.std.proofs.Common.{◌≡◌, ℕ, ◌+◌, ◌-◌, ◌≤◌, rules, List, ◌++◌, length, take, ap, ◌∙◌, sym, subst, length-take-le}
use Rattle.std.specs.Io.KnownBytes.{Consumes}
use Rattle.std.proofs.KnownBytes.{Consumes-trans}
use borrow.Rule.Slice.PartMut.{put_mid, post_of}
use lib.Seq.{take-append-add, take-append-le}
use Rattle.programs.proofs.read_all.Goals as goal

-- n bytes of ys, put into xs from a on, follow the first a of xs
take-put_mid : (a k n : ℕ) (xs ys : List ℕ) → a ≤ length xs → n ≤ length ys → take a xs ++ take n ys ≡ take (a + n) (put_mid a k xs ys)
take-put_mid a k n xs ys within fits =
    let rest = ys ++ post_of a k xs in
    let long : length (take a xs) ≡ a = length-take-le a xs within in
    let whole : take (a + n) (take a xs ++ rest) ≡ take a xs ++ take n rest =
    ap (λ (m : ℕ). take (m + n) (take a xs ++ rest)) (sym long) ∙ take-append-add (take a xs) rest n in
    sym (whole ∙ ap (λ (l : List ℕ). take a xs ++ l) (take-append-le n ys (post_of a k xs) fits))

pub loop-count-preserved : goal.loop-count-preserved
loop-count-preserved g c =
    let before = c.loop-count.invariant in
    let more = c.in_ok-more.ensures in
    let joined =
    take-put_mid c.loop-count.count (length c.loop-count.room - c.loop-count.count) c.in_ok-more.more c.loop-count.room c.read.new.buf
    before.within more.bound.0 in
    record {
      within = search rules;
      came = subst (Consumes _ _) joined (Consumes-trans _ _ _ _ _ before.came more.bytes.0);
    }
