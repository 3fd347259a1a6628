-- The roads of one junction, one after another along its chain: where each is left is marked and listed. Assumes nothing.
use mathlib.Core.Path.{◌≡◌, sym, ap, ◌∙◌, subst}
use mathlib.Core.List.{List}
use mathlib.Core.Logic.{◌⊎◌, inr, ◌≢◌}
use Rattle.std.proofs.Common.{Option}
use Prim.Native.Nat.{suc, ℕ, ◌+◌, ◌≤◌, ◌<◌}
use native.Mathlib.Decide.{dec_lt, ℕ_discrete}
use native.Mathlib.Omega.{arith}
use lib.ListN.{length, set, length-set}
use Rattle.lists.specs.Lists.{entry}
use Rattle.walks.specs.Walk.{Roads}
use Rattle.search.proofs.Sizes.{ways_fit}
use Rattle.search.specs.Sizes.{most_places, most_ways}
use Rattle.search.specs.Chains.{linked, previous_of, Link}
use Rattle.search.proofs.Links.{entry_of, entry_linked}
use Rattle.search.specs.declared.Lists.{Lists}
use Rattle.reasons.specs.Marks.{MarkAsks, From, Marks}
use Rattle.reasons.proofs.Listing.{one_fewer, marked_new, marked_still, marked_before, listed_before, listed_new}

-- ---- the loop: from the last road down to the one in hand

pub record MarkLoop (R : Roads) (u next last : ℕ) (l : Lists) (last' : ℕ) (l' : Lists) : Type 0 where
  pub long_labels : length l'.labels ≡ most_places
  pub long_ways : length l'.ways ≡ most_ways
  pub low : next ≤ R.count
  pub hit : (j : ℕ) → next ≡ j + 1 → R.tail j ≡ u
  pub marks : Marks R u next last l last' l'

module _ {R : Roads} {u last : ℕ} {l : Lists} (a : MarkAsks R u last l) where
  module _ {k last₁ : ℕ} {l₁ : Lists} (i : MarkLoop R u (suc k) last l last₁ l₁) where
    pub is_road : k < R.count
    is_road = omega (arith, i.low)

    here : R.tail k ≡ u
    here = i.hit k (omega arith)

    before : Link R u (previous_of l.chains k) k
    before = subst (λ (v : ℕ). Link R v (previous_of l.chains k) k) here (a.tracked.chained.previous k is_road)

    pub next_is : {road : Option ℕ} {cs : List ℕ} → cs ≡ l₁.chains → road ≡ linked (previous_of cs k)
        → entry_of road ≡ previous_of l.chains k
    next_is {road} {cs} s e = rw (e, entry_linked (previous_of cs k), s, i.marks.chains)

    -- the roads from the one before on: that in hand, those after it, and between them none of u
    from_before : (labels₂ : List ℕ) → ((v : ℕ) → 0 < entry l₁.labels v → 0 < entry labels₂ v)
        → 0 < entry labels₂ (R.head k) → (j : ℕ) → previous_of l.chains k ≤ j → j < R.count → R.tail j ≡ u
        → 0 < entry labels₂ (R.head j)
    from_before labels₂ still now j h lt e = go (dec_lt j k) (ℕ_discrete j k)
      where
        go : Dec (j < k) → Dec (j ≡ k) → 0 < entry labels₂ (R.head j)
        go (yes b) d = absurd (before.gap j h b e)
        go (no b) (yes d) = omega (arith, ap (λ (m : ℕ). entry labels₂ (R.head m)) d)
        go (no b) (no d) = still (R.head j) (i.marks.followed j (omega arith) lt e)

    module _ (v : ℕ) (v_is : v ≡ R.head k) where
      -- it is marked already
      pub mark_passed : entry l₁.labels v ≢ 0 → MarkLoop R u (previous_of l.chains k) last l last₁ l₁
      mark_passed h =
          record {
            long_labels = i.long_labels;
            long_ways = i.long_ways;
            low = omega (arith, before.low, i.low);
            hit = before.hit;
            marks =
                record {
                  chains = i.marks.chains;
                  listed = i.marks.listed;
                  more = i.marks.more;
                  kept = i.marks.kept;
                  same = i.marks.same;
                  new = i.marks.new;
                  followed = from_before l₁.labels (λ w m. m) (omega (arith, ap (entry l₁.labels) v_is));
                };
          }

      -- it is not
      module _ (none : entry l₁.labels v ≡ 0) where
        within : v < most_places
        within = omega (arith, a.tracked.within k is_road)

        pub room : last₁ < length l₁.ways
        room = omega (arith, one_fewer l₁.labels i.long_labels within none, i.marks.listed.counted, i.long_labels, i.long_ways, ways_fit)

        still : (w : ℕ) → 0 < entry l₁.labels w → 0 < entry (set l₁.labels v 1) w
        still = marked_still l₁.labels i.long_labels within none

        new : (w : ℕ) → 0 < entry (set l₁.labels v 1) w → Dec (w ≡ v) → (0 < entry l.labels w) ⊎ From R u w
        new w h (yes e) = inr (record { by = k; road = is_road; tail_is = here; head_is = sym (e ∙ v_is) })
        new w h (no e) = i.marks.new w (marked_before l₁.labels i.long_labels within none w e h)

        pub mark_new : MarkLoop R u (previous_of l.chains k) last l (last₁ + 1)
            (record { chains = l₁.chains; labels = set l₁.labels v 1; ways = set l₁.ways last₁ v; queue = l₁.queue })
        mark_new =
            record {
              long_labels = length-set l₁.labels v 1 ∙ i.long_labels;
              long_ways = length-set l₁.ways last₁ v ∙ i.long_ways;
              low = omega (arith, before.low, i.low);
              hit = before.hit;
              marks =
                  record {
                    chains = i.marks.chains;
                    listed = listed_new l₁.labels i.long_labels within none l₁.ways room i.marks.listed;
                    more = omega (arith, i.marks.more);
                    kept = λ w h. still w (i.marks.kept w h);
                    same = λ j h. listed_before l₁.labels i.long_labels within none l₁.ways room j (omega (arith, i.marks.more)) ∙ i.marks.same j h;
                    new = λ w h. new w h (ℕ_discrete w v);
                    followed =
                        from_before (set l₁.labels v 1) still
                        (subst (λ (w : ℕ). 0 < entry (set l₁.labels v 1) w) v_is (marked_new l₁.labels i.long_labels within none));
                  };
            }
