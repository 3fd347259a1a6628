-- Whether roads lead from one junction to another, in lists that were cleared. Assumes nothing.
use mathlib.Core.Path.{◌≡◌, subst}
use Prim.Native.Nat.{ℕ}
use Rattle.lists.specs.Lists.{AllZero}
use Rattle.walks.specs.Walk.{Roads}
use Rattle.search.specs.Chains.{Chained}
use Rattle.search.specs.declared.Lists.{Lists}
use Rattle.search.specs.declared.Trip.{Trip}
use Rattle.reasons.specs.Marks.{ReachAsks, LeadAsks}

module _ {R : Roads} {trip : Trip} (a : LeadAsks R trip) where
  pub reach_asks : {l : Lists} {n : ℕ} → n ≡ R.count → Chained R n l.chains → AllZero l.labels → ReachAsks R trip.source l
  reach_asks {l} e c z =
      record {
        tracked =
            record {
              chained = subst (λ (m : ℕ). Chained R m l.chains) e c;
              few_roads = a.few_roads;
              within = a.heads_in;
            };
        source_in = a.source_in;
        no_label = z;
      }
