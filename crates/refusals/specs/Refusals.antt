-- The numbers given back, document 01's and request [2]'s 16 and 17, and the place of each.
use Rattle.std.specs.Prelude.{ℕ}
use Rattle.refusals.specs.declared.Refusal.{Refusal}
use Rattle.refusals.specs.declared.Refusal.TheVariants.{JunctionFile, RoadFile, Battery, Start, NoJunction, ShortList, Ends, Consumption, Potential, MoreCharge, LongRoute, NotRoad, NotHere, TooLow, Impassable, NeverEnough, NotJoined}

abbrev pub number_of : Refusal → ℕ
number_of JunctionFile = 1
number_of RoadFile = 2
number_of Battery = 3
number_of Start = 4
number_of NoJunction = 5
number_of ShortList = 6
number_of (Ends k) = 7
number_of (Consumption k) = 8
number_of (Potential k) = 9
number_of (MoreCharge b) = 10
number_of LongRoute = 11
number_of (NotRoad i) = 12
number_of (NotHere i) = 13
number_of (TooLow i) = 14
number_of (Impassable i) = 15
number_of NeverEnough = 16
number_of NotJoined = 17

-- a record's fault gives the record, a route entry's its place, 10 the least start charge, any other 0
abbrev pub place_of : Refusal → ℕ
place_of JunctionFile = 0
place_of RoadFile = 0
place_of Battery = 0
place_of Start = 0
place_of NoJunction = 0
place_of ShortList = 0
place_of (Ends k) = k
place_of (Consumption k) = k
place_of (Potential k) = k
place_of (MoreCharge b) = b
place_of LongRoute = 0
place_of (NotRoad i) = i
place_of (NotHere i) = i
place_of (TooLow i) = i
place_of (Impassable i) = i
place_of NeverEnough = 0
place_of NotJoined = 0
