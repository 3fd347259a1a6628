-- What the private steps of a drive and of a profile ask for so that no sum wraps. No promise cites this file.
use Rattle.std.specs.Prelude.{◌≤◌, ◌<◌, ◌+◌, ◌^◌}
use Rattle.numbers.specs.Signed.{draw, gain}
use Rattle.battery.specs.Rule.{most_battery, most_consumption}
use Rattle.battery.specs.declared.Battery.{Battery}
use Rattle.battery.specs.declared.Road.{Road}
use Rattle.battery.specs.declared.Van.{Van}
use Rattle.battery.specs.declared.Profile.{Profile}

-- a road's consumption lies in its range
pub record Ranged (r : Road) : Type 0 where
  pub draw_le : draw r.consumption ≤ most_consumption
  pub gain_le : gain r.consumption ≤ most_consumption

-- a van whose totals have room for one road more
pub record Ready (v : Van) (r : Road) : Type 0 where
  pub ranged : Ranged r
  pub battery_le : v.battery.size ≤ most_battery
  pub charge_le : v.charge ≤ v.battery.size
  pub drawn_lt : v.drawn < 2 ^ 62
  pub recovered_lt : v.recovered < 2 ^ 62
  pub spilled_lt : v.spilled < 2 ^ 62

-- what every profile of a route keeps, with a battery of size M: sum ≤ need ≤ M, and top ≤ M as well as M − sum
pub record Kept (B : Battery) (p : Profile) : Type 0 where
  pub need_le : p.need ≤ B.size
  pub sum_need : draw p.sum ≤ p.need + gain p.sum
  pub top_le : p.top ≤ B.size
  pub top_sum : p.top + draw p.sum ≤ B.size + gain p.sum

-- a profile that has room for one road more
pub record Extends (B : Battery) (p : Profile) (r : Road) : Type 0 where
  pub ranged : Ranged r
  pub battery_le : B.size ≤ most_battery
  pub kept : Kept B p
  pub sum_draw : draw p.sum < 2 ^ 62
  pub sum_gain : gain p.sum < 2 ^ 62
