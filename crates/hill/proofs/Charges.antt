-- The charges to set off with on network H. A walk's profile tells its need; a junction's number is the least of its walks'
-- needs. Assumes nothing.
use Rattle.std.specs.Prelude.{None, Option, Some}
use mathlib.Core.Path.{◌≡◌, refl}
use mathlib.Core.List.{List, [], ◌∷◌}
use Prim.Native.Nat.{ℕ, ◌≤◌, ◌<◌}
use native.Mathlib.Decide.{dec_lt}
use native.Mathlib.Omega.{arith}
use lib.IntN.{pos, negsuc}
use Rattle.battery.proofs.Agree.{agreement, impassable_exactly}
use Rattle.battery.specs.Drive.{fresh, driven, drive, drive_all}
use Rattle.battery.specs.Profile.{one_road, followed_by, profile_of}
use Rattle.battery.specs.declared.Battery.{Battery}
use Rattle.battery.specs.declared.Van.{Van}
use Rattle.journeys.proofs.SetOff.{depot_number}
use Rattle.journeys.specs.SetOff.{SetOff, least, never}
use Rattle.journeys.specs.Walks.{Walk, roads_of, Feasible}
use Rattle.walks.specs.Walk.{stay, go}
use Rattle.hill.specs.Charges.{Charges}
use Rattle.hill.specs.Hill.{roads, sized}
use Rattle.hill.proofs.Walks.{Way, way, by_1, by_3, by_1_3, no_way, to_3, to_2, hill_3, flat_2}
use Rattle.battery.specs.declared.Profile.{Profile}

-- a walk with this profile needs b or more, or cannot be driven at all
abbrev Needs : ℕ → Option Profile → Type 0
Needs b (Some p) = b ≤ p.need
Needs b None = Unit {0}

low_not : {X : Type 0} {m : Battery} {c : ℕ} {ks : List ℕ} → drive_all (fresh m c) (roads_of roads ks) ≡ None → Feasible m c roads ks → X
low_not t f = let z : ◌≡◌ {A = ℕ} 0 1 = cc (t, f.drives) in absurd (omega arith)

needs_of : (m : Battery) (b c : ℕ) (ks : List ℕ) (x : Option Profile) → profile_of m (roads_of roads ks) ≡ x → Needs b x → c ≤ m.size
    → Feasible m c roads ks → b ≤ c
needs_of m b c ks (Some p) e n h f = go (dec_lt c p.need)
  where
    go : Dec (c < p.need) → b ≤ c
    go (yes l) = low_not ((agreement m c (roads_of roads ks) p e h).below l) f
    go (no l) = omega arith
needs_of m b c ks None e n h f = low_not ((impassable_exactly m (roads_of roads ks)).never e c h) f

-- every walk from v to d needs b or more, and the walk by `best` can be driven with b
least_of : {m : Battery} {v d b : ℕ} {w : Van} (best : List ℕ) → Walk roads v best d → drive_all (fresh m b) (roads_of roads best) ≡ Some w
    → b ≤ m.size → ((ks : List ℕ) → Way v ks d → Needs b (profile_of m (roads_of roads ks))) → SetOff m roads v d (pos b)
least_of {m} {b} {w} best walk e h n =
    least b (record { to_full = h; by = best; walk = walk; feasible = record { van = w; drives = e } })
    (λ c f. needs_of m b c f.by _ refl (n f.by (way f.walk)) f.to_full f.feasible)

-- no walk from v to d can be driven with any charge
never_of : {m : Battery} {v d : ℕ} → ((ks : List ℕ) → Way v ks d → profile_of m (roads_of roads ks) ≡ None) → SetOff m roads v d (negsuc 0)
never_of {m} n =
    never (λ c f. low_not ((impassable_exactly m (roads_of roads f.by)).never (n f.by (way f.walk)) c f.to_full) f.feasible)

-- ---- the walks from each junction

-- by ks alone
abbrev One : ℕ → ℕ → List ℕ → Type 1
One s t one = (P : List ℕ → Type 0) → P one → (ks : List ℕ) → Way s ks t → P ks

from_1 : One 1 3 (1 ∷ 3 ∷ [])
from_1 P p ks by_1_3 = p

from_2 : One 2 3 (3 ∷ [])
from_2 P p ks by_3 = p

from_1_to_2 : One 1 2 (1 ∷ [])
from_1_to_2 P p ks by_1 = p

no_road_back : {m : Battery} {v d : ℕ} → d < v → SetOff m roads v d (negsuc 0)
no_road_back h = never_of (λ ks w. no_way h w)

walk_1 : Walk roads 1 (1 ∷ 3 ∷ []) 3
walk_1 = go 1 (omega arith) refl (go 3 (omega arith) refl stay)

walk_2 : Walk roads 2 (3 ∷ []) 3
walk_2 = go 3 (omega arith) refl stay

walk_1_to_2 : Walk roads 1 (1 ∷ []) 2
walk_1_to_2 = go 1 (omega arith) refl stay

-- ---- the rows

pub charges : Charges
unfolding drive_all drive driven profile_of followed_by one_road
charges =
    record {
      to_3 =
          record {
            at_0 = least_of _ hill_3 refl (omega arith) (to_3 _ (omega arith) (omega arith));
            at_1 = least_of _ walk_1 refl (omega arith) (from_1 _ (omega arith));
            at_2 = least_of _ walk_2 refl (omega arith) (from_2 _ (omega arith));
            at_3 = depot_number (sized 1000) roads 3;
          };
      to_2 =
          record {
            at_0 = least_of _ flat_2 refl (omega arith) (to_2 _ (omega arith) (omega arith));
            at_1 = least_of _ walk_1_to_2 refl (omega arith) (from_1_to_2 _ (omega arith));
            at_2 = depot_number (sized 1000) roads 2;
            at_3 = no_road_back (omega arith);
          };
      to_0 =
          record {
            at_0 = depot_number (sized 1000) roads 0;
            at_1 = no_road_back (omega arith);
            at_2 = no_road_back (omega arith);
            at_3 = no_road_back (omega arith);
          };
      at_900 =
          record {
            at_0 = least_of _ hill_3 refl (omega arith) (to_3 _ (omega arith) tt);
            at_1 = least_of _ walk_1 refl (omega arith) (from_1 _ (omega arith));
            at_2 = least_of _ walk_2 refl (omega arith) (from_2 _ (omega arith));
            at_3 = depot_number (sized 900) roads 3;
          };
      at_899 =
          record {
            at_0 = never_of (to_3 _ refl refl);
            at_1 = never_of (from_1 _ refl);
            at_2 = never_of (from_2 _ refl);
            at_3 = depot_number (sized 899) roads 3;
          };
    }
