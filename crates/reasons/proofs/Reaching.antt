-- The junctions that roads lead to from the source: the roads of one listed junction after another are followed. Assumes
-- nothing.
use mathlib.Core.Path.{◌≡◌, sym, ap, ◌∙◌, subst}
use mathlib.Core.List.{List, [], ◌∷◌, ◌++◌}
use mathlib.Core.Logic.{◌⊎◌, inl, inr}
use Prim.Native.Nat.{ℕ, ◌+◌, ◌≤◌, ◌<◌}
use native.Mathlib.Decide.{ℕ_discrete}
use native.Mathlib.Omega.{arith}
use lib.ListN.{length, set}
use Rattle.lists.proofs.Puts.{put_only}
use Rattle.lists.proofs.Zeros.{zeros_all}
use Rattle.lists.specs.Lists.{entry, Put}
use Rattle.walks.proofs.Turned.{walk_then}
use Rattle.walks.specs.Walk.{Roads, Walk, stay, go}
use Rattle.search.proofs.Sizes.{ways_fit}
use Rattle.search.specs.Sizes.{most_places, most_ways}
use Rattle.search.specs.declared.Lists.{Lists}
use Rattle.reasons.specs.Marks.{Tracked, Listed, From, Marks, ReachAsks, Reaches}
use Rattle.reasons.proofs.Listing.{put_mark, listed_new}

-- the roads of the first ones are followed
pub record ReachLoop (R : Roads) (source : ℕ) (l : Lists) (first last : ℕ) : Type 0 where
  pub tracked : Tracked R l.chains
  pub low : first ≤ last
  pub listed : Listed l.labels l.ways last
  pub start : 0 < entry l.labels source
  pub reached : (v : ℕ) → 0 < entry l.labels v → (ks : List ℕ) × Walk R source ks v
  pub followed : (i k : ℕ) → i < first → k < R.count → R.tail k ≡ entry l.ways i → 0 < entry l.labels (R.head k)

-- marks that no road leads out of
closed_walk : (R : Roads) (L : ℕ → ℕ) {v w : ℕ} {ks : List ℕ} → ((k : ℕ) → k < R.count → 0 < L (R.tail k) → 0 < L (R.head k))
    → 0 < L v → Walk R v ks w → 0 < L w
closed_walk R L c h stay = h
closed_walk R L c h (go k l e walk) = closed_walk R L c (c k l (omega (arith, ap L e))) walk

-- ---- the source alone

module _ {R : Roads} {source : ℕ} {l : Lists} (a : ReachAsks R source l) (long_labels : length l.labels ≡ most_places)
    (long_ways : length l.ways ≡ most_ways) where
  put : Put (entry l.labels) (entry (set l.labels source 1)) source 1
  put = put_mark l.labels long_labels a.source_in (a.no_label source)

  pub reach_start : ReachLoop R source
      (record { chains = l.chains; labels = set l.labels source 1; ways = set l.ways 0 source; queue = l.queue }) 0 1
  reach_start =
      record {
        tracked = a.tracked;
        low = omega arith;
        listed =
            listed_new l.labels long_labels a.source_in (a.no_label source) l.ways (omega (arith, a.source_in, ways_fit))
            (record {
              few = omega arith;
              counted = omega (arith, zeros_all (entry l.labels) a.no_label (length l.labels));
              each = λ i h. absurd (omega arith);
              found = λ v h. absurd (omega (arith, a.no_label v));
            });
        start = omega (arith, put.here);
        reached = λ v h. ([], subst (λ (w : ℕ). Walk R source [] w) (sym (put_only put a.no_label v h)) stay);
        followed = λ i k h l e. absurd (omega arith);
      }

-- ---- the next one

module _ {R : Roads} {source : ℕ} {l : Lists} {first last : ℕ} (i : ReachLoop R source l first last) where
  module _ (more : first < last) {l₂ : Lists} {last₂ : ℕ} (m : Marks R (entry l.ways first) 0 last l last₂ l₂) where
    pub reach_next : ReachLoop R source l₂ (first + 1) last₂
    reach_next =
        record {
          tracked = subst (Tracked R) (sym m.chains) i.tracked;
          low = omega (arith, m.more);
          listed = m.listed;
          start = m.kept source i.start;
          reached = λ v h. reached v (m.new v h);
          followed = λ j k h lt e. followed j k h lt e (ℕ_discrete j first);
        }
      where
        reached : (v : ℕ) → (0 < entry l.labels v) ⊎ From R (entry l.ways first) v → (ks : List ℕ) × Walk R source ks v
        reached v (inl h) = i.reached v h
        reached v (inr f) =
            let (ks, w) = i.reached (entry l.ways first) (i.listed.each first more) in
            (ks ++ (f.by ∷ []), subst (λ (x : ℕ). Walk R source (ks ++ (f.by ∷ [])) x) f.head_is (walk_then w f.by f.road f.tail_is))

        followed : (j k : ℕ) → j < first + 1 → k < R.count → R.tail k ≡ entry l₂.ways j → Dec (j ≡ first)
            → 0 < entry l₂.labels (R.head k)
        followed j k h lt e (yes d) = m.followed k (omega arith) lt (e ∙ ap (entry l₂.ways) d ∙ m.same first more)
        followed j k h lt e (no d) = m.kept (R.head k) (i.followed j k (omega arith) lt (e ∙ m.same j (omega arith)))

  -- ---- the end

  pub reach_done : last ≤ first → Reaches R source l.labels
  reach_done e = record { by = i.reached; all = λ w. closed_walk R (entry l.labels) closed i.start w }
    where
      closed : (k : ℕ) → k < R.count → 0 < entry l.labels (R.tail k) → 0 < entry l.labels (R.head k)
      closed k h m =
          let f = i.listed.found (R.tail k) m in
          i.followed f.0 k (omega (arith, f.1)) h (sym f.2)
