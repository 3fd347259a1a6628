-- What the private parts ask for and give. No promise cites this file.
use Rattle.std.specs.Prelude.{◌≡◌, List, ℕ, ◌+◌, ◌≤◌, ◌<◌, ℤ, length}
use Rattle.lists.specs.Lists.{entry}
use Rattle.battery.specs.Rule.{most_battery}
use Rattle.battery.specs.declared.Battery.{Battery}
use Rattle.network.specs.Files.{junctions}
use Rattle.reading.specs.Reading.{charge_of}
use Rattle.promises.specs.Passed.{FilesPassed}
use Rattle.promises.specs.Promises.{number_at}

-- all tests have passed
pub record FillAsks (ns rs : List ℕ) (B : Battery) (depot : ℕ) (list : List ℤ) : Type 0 where
  pub files : FilesPassed ns rs
  pub battery_le : B.size ≤ most_battery
  pub depot_in : depot < junctions ns
  pub room : junctions ns ≤ length list

pub record ChargeAsks (B : Battery) (label : ℕ) : Type 0 where
  pub battery_le : B.size ≤ most_battery
  pub label_le : label ≤ B.size + 1

pub record WriteAsks (B : Battery) (labels : List ℕ) (count : ℕ) (list : List ℤ) : Type 0 where
  pub battery_le : B.size ≤ most_battery
  pub label_le : (v : ℕ) → entry labels v ≤ B.size + 1
  pub labels_room : count ≤ length labels
  pub room : count ≤ length list

-- the first `count` entries are the charges of the labels, the others stay
pub record Written (B : Battery) (labels : List ℕ) (count : ℕ) (list xs : List ℤ) : Type 0 where
  pub long : length xs ≡ length list
  pub charges : (v : ℕ) → v < count → number_at xs v ≡ charge_of B (entry labels v)
  pub past : (i : ℕ) → count ≤ i → number_at xs i ≡ number_at list i
