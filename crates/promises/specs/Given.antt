-- Numbers given back: document 01's number and values of each answer. A success has number 0 and place 0; a refusal has its
-- number and place, and zero for all other numbers.
use Rattle.std.specs.Prelude.{ℕ, pos, Err, Ok, Result}
use Rattle.refusals.specs.Refusals.{number_of, place_of}
use Rattle.refusals.specs.Order.{Checked}
use Rattle.promises.specs.declared.CheckNumbers.{CheckNumbers}
use Rattle.promises.specs.declared.PlanNumbers.{PlanNumbers}
use Rattle.promises.specs.declared.DriveNumbers.{DriveNumbers}
use Rattle.promises.specs.declared.ProfileNumbers.{ProfileNumbers}
use Rattle.battery.specs.declared.Van.{Van}
use Rattle.battery.specs.declared.Profile.{Profile}
use Rattle.refusals.specs.declared.Refusal.{Refusal}
use Rattle.promises.specs.declared.Route.{Route}

abbrev pub check_numbers : Checked → CheckNumbers
check_numbers (Ok u) = record { number = 0; place = 0 }
check_numbers (Err r) = record { number = number_of r; place = place_of r }

-- a best route of n roads with the van v at its end
abbrev pub routed : ℕ → Van → Result Route Refusal
routed n v = Ok (record { roads = n; end = v })

abbrev pub plan_numbers : Result Route Refusal → PlanNumbers
plan_numbers (Ok r) =
    record {
      number = 0;
      place = 0;
      roads = r.roads;
      arrival = r.end.charge;
      drawn = r.end.drawn;
      recovered = r.end.recovered;
      spilled = r.end.spilled;
    }
plan_numbers (Err r) =
    record { number = number_of r; place = place_of r; roads = 0; arrival = 0; drawn = 0; recovered = 0; spilled = 0 }

abbrev pub drive_numbers : Result Van Refusal → DriveNumbers
drive_numbers (Ok v) =
    record {
      number = 0;
      place = 0;
      arrival = v.charge;
      drawn = v.drawn;
      recovered = v.recovered;
      spilled = v.spilled;
    }
drive_numbers (Err r) =
    record { number = number_of r; place = place_of r; arrival = 0; drawn = 0; recovered = 0; spilled = 0 }

abbrev pub profile_numbers : Result Profile Refusal → ProfileNumbers
profile_numbers (Ok p) =
    record { number = 0; place = 0; need = p.need; sum = p.sum; top = p.top }
profile_numbers (Err r) =
    record { number = number_of r; place = place_of r; need = 0; sum = pos 0; top = 0 }
