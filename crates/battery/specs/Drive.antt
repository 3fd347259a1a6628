-- A drive goes one road at a time: the van's state and a road give the next state.
use Rattle.std.specs.Prelude.{List, [], ◌∷◌, ℕ, ◌+◌, None, Option, Some, cond, option_and_then}
use Rattle.numbers.specs.Signed.{draw, gain}
use Rattle.battery.specs.Rule.{drivable, charge_after, excess}
use Rattle.battery.specs.declared.Battery.{Battery}
use Rattle.battery.specs.declared.Road.{Road}
use Rattle.battery.specs.declared.Van.{Van}

-- a van that sets out with the battery B and the charge b
abbrev pub fresh : Battery → ℕ → Van
fresh B b = record { battery = B; charge = b; drawn = 0; recovered = 0; spilled = 0 }

-- the van at the head of a road that can be driven. Drawn grows by a positive consumption, recovered by the size of a
-- negative one, spilled by how far b − c stood above the battery size.
unfoldable pub driven : Van → Road → Van
driven v r =
    record {
      battery = v.battery;
      charge = charge_after v.battery v.charge r;
      drawn = v.drawn + draw r.consumption;
      recovered = v.recovered + gain r.consumption;
      spilled = v.spilled + excess v.battery v.charge r;
    }

-- one road; none where the charge is too low
unfoldable pub drive : Van → Road → Option Van
drive v r = cond (drivable v.battery v.charge r) (Some (driven v r)) None

-- the roads in turn; none where the charge is too low for one; a walk is feasible where this is some van
unfoldable pub drive_all : Van → List Road → Option Van
drive_all v [] = Some v
drive_all v (r ∷ rs) = option_and_then (λ w. drive_all w rs) (drive v r)
