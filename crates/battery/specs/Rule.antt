-- The battery rule of document 01, over a battery and a road. b is the charge at the tail, c the road's consumption, M the
-- battery size.
use Rattle.std.specs.Prelude.{Bool, ℕ, ◌-◌, min, ℤ, pos, ◌-ℤ◌}
use Rattle.std.specs.Int.Signed.{le_z}
use Rattle.numbers.specs.Signed.{draw}
use Rattle.battery.specs.declared.Battery.{Battery}
use Rattle.battery.specs.declared.Road.{Road}

-- the largest battery size, and the largest size of a consumption
abbrev pub most_battery : ℕ
most_battery = 200000000

abbrev pub most_consumption : ℕ
most_consumption = 200000000

-- the road can be driven: c is no greater than b
abbrev pub drivable : Battery → ℕ → Road → Bool
drivable B b r = le_z r.consumption (pos b)

-- what it needs: the larger of 0 and c
abbrev pub needs : Battery → Road → ℕ
needs B r = draw r.consumption

-- b − c, which is not below 0 where the road can be driven
abbrev pub left : ℕ → ℤ → ℕ
left b c = draw (pos b -ℤ c)

-- the charge at the head: the smaller of b − c and M
abbrev pub charge_after : Battery → ℕ → Road → ℕ
charge_after B b r = min (left b r.consumption) B.size

-- how far b − c stands above M, 0 where it does not
abbrev pub excess : Battery → ℕ → Road → ℕ
excess B b r = left b r.consumption - B.size
