-- What forward labels mean: a label after a walk is the charge that the drive arrives with, plus one. Assumes nothing.
use Rattle.std.specs.Prelude.{None, Option, Some, cond, option_and_then}
use mathlib.Core.Path.{◌≡◌, refl, sym, ap, ◌∙◌}
use mathlib.Core.Bool.{Bool, true, false}
use mathlib.Core.List.{List, [], ◌∷◌}
use Prim.Native.Nat.{ℕ, suc}
use Rattle.battery.specs.declared.Battery.{Battery}
use Rattle.battery.proofs.Drive.{Driving, on, low, driving}
use Rattle.battery.specs.Drive.{fresh, driven, drive, drive_all}
use Rattle.battery.specs.Rule.{drivable, charge_after}
use Rattle.battery.specs.declared.Road.{Road}
use Rattle.battery.specs.declared.Van.{Van}
use Rattle.journeys.specs.Walks.{roads_of}
use Rattle.network.specs.Files.{road_of}
use Rattle.walks.specs.Label.{after}
use Rattle.reading.specs.Reading.{forward, label_if, step_forward, net}

abbrev pub label : Option Van → ℕ
label (Some v) = suc v.charge
label None = 0

-- one road, by a van with any totals
label_drive : (v : Van) (r : Road) → label (drive v r) ≡ step_forward v.battery r (suc v.charge)
unfolding drive driven
label_drive v r = go (drivable v.battery v.charge r)
  where
    go : (t : Bool)
        → label (cond t (Some (driven v r)) None) ≡ label_if t (charge_after v.battery v.charge r)
    go true = refl
    go false = refl

after_none : (B : Battery) (rs ks : List ℕ) → after (net (forward B) rs) ks 0 ≡ 0
unfolding net
after_none B rs [] = refl
after_none B rs (k ∷ ks) = after_none B rs ks

after_van : (B : Battery) (rs ks : List ℕ) (v : Van) → v.battery ≡ B
    → after (net (forward B) rs) ks (suc v.charge) ≡ label (drive_all v (roads_of rs ks))
unfolding net drive_all
after_van B rs [] v e = refl
after_van B rs (k ∷ ks) v e =
    ap (after (net (forward B) rs) ks) (ap (λ (m : Battery). step_forward m (road_of rs k) (suc v.charge)) (sym e) ∙ sym (label_drive v (road_of rs k)))
    ∙ go (drive v (road_of rs k)) (driving v (road_of rs k)) (λ w f. after_van B rs ks w f)
  where
    go : (d : Option Van) → Driving v (road_of rs k) d
        → ((w : Van) → w.battery ≡ B → after (net (forward B) rs) ks (suc w.charge) ≡ label (drive_all w (roads_of rs ks)))
        → after (net (forward B) rs) ks (label d) ≡ label (option_and_then (λ w. drive_all w (roads_of rs ks)) d)
    go (Some w) (on g) ih = ih w (g.battery_is ∙ e)
    go None (low h) ih = after_none B rs ks

pub label_after : (B : Battery) (b : ℕ) (rs ks : List ℕ) → after (net (forward B) rs) ks (suc b) ≡ label (drive_all (fresh B b) (roads_of rs ks))
label_after B b rs ks = after_van B rs ks (fresh B b) refl
