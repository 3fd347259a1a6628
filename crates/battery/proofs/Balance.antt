-- The balance of every driven route: start + recovered = arrival + drawn + spilled. Assumes nothing.
use mathlib.Core.Path.{◌≡◌}
use Prim.Native.Nat.{ℕ, ◌+◌}
use native.Mathlib.Omega.{arith}
use Rattle.battery.specs.Claims.{Balance}
use Rattle.battery.specs.Drive.{fresh}
use Rattle.battery.specs.declared.Road.{Road}
use Rattle.battery.specs.declared.Van.{Van}
use Rattle.battery.proofs.Drive.{Went, along}

record Balanced (start : ℕ) (v : Van) : Type 0 where
  pub sums : start + v.recovered ≡ v.charge + v.drawn + v.spilled

one_road : (start : ℕ) (v w : Van) (r : Road) → Went v r w → Balanced start v → Balanced start w
one_road start v w r g b = record { sums = omega arith }

pub balance : Balance
balance B b rs v e = (along (Balanced b) (one_road b) (fresh B b) rs e (record { sums = omega arith })).sums
