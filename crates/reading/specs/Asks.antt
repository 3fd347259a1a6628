-- What reading asks of the files, of the battery and of a road. No promise cites this file.
use Rattle.std.specs.Prelude.{◌≡◌, List, ℕ, ◌≤◌, ◌<◌, Ok}
use Rattle.battery.specs.declared.Battery.{Battery}
use Rattle.battery.specs.Ready.{Ranged}
use Rattle.battery.specs.Rule.{most_battery}
use Rattle.battery.specs.declared.Road.{Road}
use Rattle.network.specs.Check.{records_fault}
use Rattle.network.specs.Files.{junctions, road_count, most_junctions, most_roads}
use Rattle.reading.specs.Reading.{most_label}

-- the files have passed the network check, and the battery size is in range
pub record Readable (B : Battery) (ns rs : List ℕ) : Type 0 where
  pub battery_le : B.size ≤ most_battery
  pub few : junctions ns ≤ most_junctions
  pub few_roads : road_count rs ≤ most_roads
  pub checked : records_fault ns rs ≡ Ok tt

-- a road's step asks for a label where the road is entered
pub record StepAsks (B : Battery) (r : Road) (label : ℕ) : Type 0 where
  pub some : 0 < label
  pub label_le : label ≤ most_label B
  pub battery_le : B.size ≤ most_battery
  pub ranged : Ranged r
