-- The roads of a file as they are read: what the methods of `Reading` give is what the network of labels has, so that no
-- search looks into `net`. Assumes nothing.
use mathlib.Core.Path.{◌≡◌, refl, ap, ◌∙◌}
use mathlib.Core.List.{List, reverse}
use Prim.Native.Nat.{ℕ, ◌≤◌, ◌<◌}
use Rattle.battery.specs.declared.Battery.{Battery}
use Rattle.battery.specs.declared.Road.{Road}
use Rattle.network.proofs.Records.{Sound, all_sound, all_ranged}
use Rattle.network.specs.Files.{junctions, road_count, road_of}
use Rattle.journeys.specs.Walks.{Walk}
use Rattle.walks.proofs.Turned.{walk_turned}
use Rattle.walks.specs.Walk as walk
use Rattle.reading.specs.Asks.{Readable, StepAsks}
use Rattle.reading.specs.Reading.{backward, most_label, entered, left, step_of, net}
use Rattle.reading.specs.declared.Reading.{Reading}
use Rattle.reading.specs.declared.Sense.{Sense}
use Rattle.reading.specs.declared.Sense.TheVariants.{Forward, Backward}

pub count_is : (rd : Reading) (rs : List ℕ) → (net rd rs).roads.count ≡ road_count rs
unfolding net
count_is rd rs = refl

-- ---- a road that was read from the file

module _ (rd : Reading) (rs : List ℕ) (k : ℕ) (r : Road) (road_is : r ≡ road_of rs k) where
  pub tail_at : {v : ℕ} → v ≡ entered rd.sense r → v ≡ (net rd rs).roads.tail k
  unfolding net
  tail_at e = e ∙ ap (entered rd.sense) road_is

  pub head_at : {v : ℕ} → v ≡ left rd.sense r → v ≡ (net rd rs).roads.head k
  unfolding net
  head_at e = e ∙ ap (left rd.sense) road_is

  pub step_at : (l : ℕ) {x : ℕ} → x ≡ step_of rd.sense rd.battery r l → x ≡ (net rd rs).step k l
  unfolding net
  step_at l e = e ∙ ap (λ (q : Road). step_of rd.sense rd.battery q l) road_is

-- ---- the roads of checked files

left_in : (s : Sense) (ns : List ℕ) (r : Road) → Sound ns r → left s r < junctions ns
left_in Forward ns r sound = sound.road.head_lt
left_in Backward ns r sound = sound.road.tail_lt

entered_in : (s : Sense) (ns : List ℕ) (r : Road) → Sound ns r → entered s r < junctions ns
entered_in Forward ns r sound = sound.road.tail_lt
entered_in Backward ns r sound = sound.road.head_lt

module _ (rd : Reading) (ns rs : List ℕ) (a : Readable rd.battery ns rs) (k : ℕ) (h : k < road_count rs) where
  pub tails_in : (net rd rs).roads.tail k < junctions ns
  unfolding net
  tails_in = entered_in rd.sense ns (road_of rs k) (all_sound ns rs a.checked k h)

  pub heads_in : (net rd rs).roads.head k < junctions ns
  unfolding net
  heads_in = left_in rd.sense ns (road_of rs k) (all_sound ns rs a.checked k h)

  pub step_asks : (r : Road) (label : ℕ) → r ≡ road_of rs k → 0 < label → label ≤ most_label rd.battery
      → StepAsks rd.battery r label
  step_asks r label road_is some label_le =
      record {
        some = some;
        label_le = label_le;
        battery_le = a.battery_le;
        ranged = rw road_is (all_ranged ns rs a.checked k h);
      }

-- ---- walks read backward

module _ (B : Battery) (rs : List ℕ) {v w : ℕ} {ks : List ℕ} where
  pub walk_back : Walk rs v ks w → walk.Walk (net (backward B) rs).roads w (reverse ks) v
  unfolding net
  walk_back t = walk_turned t

  pub walk_forth : walk.Walk (net (backward B) rs).roads v ks w → Walk rs w (reverse ks) v
  unfolding net
  walk_forth t = walk_turned t
