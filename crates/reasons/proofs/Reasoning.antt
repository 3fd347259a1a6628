-- Why there is no route: from the source's label in a search back from the target, and from whether roads join the two.
-- Assumes nothing.
use mathlib.Core.Path.{◌≡◌, subst}
use mathlib.Core.Bool.{Bool, true, false}
use mathlib.Core.List.{List, reverse}
use Prim.Native.Nat.{ℕ, ◌+◌, ◌-◌, ◌<◌}
use native.Mathlib.Omega.{arith}
use Rattle.battery.specs.declared.Battery.{Battery}
use Rattle.network.specs.Files.{junctions}
use Rattle.journeys.specs.Reasons.{Reason}
use Rattle.journeys.specs.Reasons as reasons
use Rattle.journeys.specs.SetOff.{SetOff}
use Rattle.refusals.specs.declared.Refusal.TheVariants.{MoreCharge, NeverEnough, NotJoined}
use Rattle.walks.specs.Label.{Best}
use Rattle.reading.specs.Asks.{Readable}
use Rattle.reading.specs.Reading.{backward, net}
use Rattle.reading.proofs.Backward.{set_off, charge_some}
use Rattle.reading.proofs.Net.{tails_in, heads_in, count_is, walk_back, walk_forth}
use Rattle.search.specs.declared.Trip.{Trip}
use Rattle.search.proofs.Sizes.{junctions_fit}
use Rattle.reasons.specs.Marks.{LeadAsks, Leads}

module _ {B : Battery} {ns rs : List ℕ} (r : Readable B ns rs) where
  pub lead_asks : (t : Trip) → t.source < junctions ns → t.target < junctions ns → LeadAsks (net (backward B) rs).roads t
  lead_asks t s_in t_in =
      let n = count_is (backward B) rs in
      record {
        few_roads = omega (arith, n, r.few_roads);
        tails_in = λ k h. omega (arith, tails_in (backward B) ns rs r k (omega (arith, n)), r.few, junctions_fit);
        heads_in = λ k h. omega (arith, heads_in (backward B) ns rs r k (omega (arith, n)), r.few, junctions_fit);
        source_in = omega (arith, r.few, junctions_fit);
        target_in = omega (arith, r.few, junctions_fit);
      }

module _ (B : Battery) (rs : List ℕ) (v w : ℕ) where
  pub more_charge : (x : ℕ) → 0 < x → Best (net (backward B) rs) w (B.size + 1) v x → Reason B rs v w (MoreCharge (B.size + 1 - x))
  more_charge x h best = reasons.more_charge (subst (SetOff B rs v w) (charge_some B x h) (set_off B rs v w x best))

  module _ (r : Bool) (l : Leads (net (backward B) rs).roads w v r) where
    pub never_enough : r ≡ true → (x : ℕ) → x ≡ 0 → Best (net (backward B) rs) w (B.size + 1) v x → Reason B rs v w NeverEnough
    never_enough h x e best =
        let b = subst (Best (net (backward B) rs) w (B.size + 1) v) e best in
        let (ks, walk) = l.by h in
        reasons.never_enough (set_off B rs v w 0 b) (record { by = reverse ks; walk = walk_forth B rs walk })

    pub not_joined : r ≡ false → Reason B rs v w NotJoined
    not_joined h = reasons.not_joined (λ j. l.none h (reverse j.by) (walk_back B rs j.walk))
