-- What the search from the depot asks, and what its labels tell. Assumes nothing.
use mathlib.Core.Path.{◌≡◌, sym, subst}
use mathlib.Core.List.{List}
use Prim.Native.Nat.{ℕ, ◌+◌}
use native.Mathlib.Omega.{arith}
use lib.IntN.{ℤ}
use lib.ListN.{length}
use Rattle.lists.specs.Lists.{entry}
use Rattle.battery.specs.declared.Battery.{Battery}
use Rattle.network.specs.Files.{junctions}
use Rattle.search.specs.Sizes.{most_places}
use Rattle.journeys.specs.SetOff.{SetOff}
use Rattle.reading.proofs.Backward.{set_off}
use Rattle.reading.proofs.Laws.{best_le}
use Rattle.reading.specs.Reading.{backward, net}
use Rattle.search.specs.Searches.{Labels}
use Rattle.promises.specs.Promises.{Numbered}
use Rattle.depot.specs.Filling.{FillAsks, WriteAsks, Written}

module _ {ns rs : List ℕ} {B : Battery} {depot : ℕ} {list : List ℤ} (a : FillAsks ns rs B depot list) where
  module _ {labels : List ℕ} (l : Labels (net (backward B) rs) depot (B.size + 1) labels) where
    pub write_asks : length labels ≡ most_places → WriteAsks B labels (junctions ns) list
    write_asks long =
        record {
          battery_le = a.battery_le;
          label_le = λ v. best_le (backward B) rs depot (B.size + 1) v (entry labels v) (omega arith) (l.best v);
          labels_room = omega (arith, a.files.few);
          room = a.room;
        }

    pub numbered : {xs : List ℤ} → Written B labels (junctions ns) list xs → Numbered ns rs B depot list xs
    numbered w =
        record {
          long = w.long;
          numbers = λ v h. subst (SetOff B rs v depot) (sym (w.charges v h)) (set_off B rs v depot (entry labels v) (l.best v));
          past = w.past;
        }
