-- What a question that passes its tests has. No promise cites this file.
use Rattle.std.specs.Prelude.{◌≡◌, true, List, ℕ, ◌+◌, ◌≤◌, ◌<◌, ℤ, pos, Ok}
use Rattle.std.specs.Int.Signed.{le_z}
use Rattle.numbers.specs.Signed.{draw}
use Rattle.battery.specs.Rule.{most_battery}
use Rattle.network.specs.Check.{records_fault}
use Rattle.network.specs.Files.{junctions, road_count, most_junctions, most_roads, junction_file, road_file, is_junction}
use Rattle.routes.specs.Places.{most_entries}
use Rattle.promises.specs.Order.{is_battery, is_start}
use Rattle.promises.specs.declared.PlanQuestion.{PlanQuestion}
use Rattle.promises.specs.declared.SetOffQuestion.{SetOffQuestion}

-- a number of a question that is a natural, at most most_battery
pub record Whole (z : ℤ) : Type 0 where
  pub from_0 : le_z (pos 0) z ≡ true
  pub draw_le : draw z ≤ most_battery

-- 1, 2 and the records
pub record FilesPassed (ns rs : List ℕ) : Type 0 where
  pub nodes_ok : junction_file ns ≡ true
  pub roads_ok : road_file rs ≡ true
  pub few : junctions ns ≤ most_junctions
  pub few_roads : road_count rs ≤ most_roads
  pub records_ok : records_fault ns rs ≡ Ok tt

-- best route, with a lent list of n entries
pub record PlanPassed (ns rs : List ℕ) (q : PlanQuestion) (n : ℕ) : Type 0 where
  pub files : FilesPassed ns rs
  pub battery_ok : is_battery q.battery ≡ true
  pub start_ok : is_start q.battery q.start ≡ true
  pub source_in : q.source < junctions ns
  pub target_in : q.target < junctions ns
  pub room : junctions ns ≤ n + 1

-- drive and profile of n roads, from a battery m
pub record RoutePassed (ns rs : List ℕ) (m : ℤ) (n : ℕ) : Type 0 where
  pub files : FilesPassed ns rs
  pub battery_ok : is_battery m ≡ true
  pub entries_le : n ≤ most_entries

-- the charges to set off with, with a lent list of n entries
pub record SetOffPassed (ns rs : List ℕ) (q : SetOffQuestion) (n : ℕ) : Type 0 where
  pub files : FilesPassed ns rs
  pub battery_ok : is_battery q.battery ≡ true
  pub depot_ok : is_junction ns q.depot ≡ true
  pub depot_in : q.depot < junctions ns
  pub room : junctions ns ≤ n
