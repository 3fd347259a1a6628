-- The profile of one route: three numbers that give the arrival at any start.
use Rattle.std.specs.Prelude.{List, [], ◌∷◌, min, max, leb, pos, ◌+ℤ◌, None, Option, Some, cond}
use Rattle.numbers.specs.Signed.{draw}
use Rattle.battery.specs.Rule.{drivable, needs, left}
use Rattle.battery.specs.declared.Battery.{Battery}
use Rattle.battery.specs.declared.Road.{Road}
use Rattle.battery.specs.declared.Profile.{Profile}

-- no roads: need 0, sum 0, top M
abbrev pub no_roads : Battery → Profile
no_roads B = record { need = 0; sum = pos 0; top = B.size }

-- one road c ≤ M: need the larger of 0 and c; sum c; top the smaller of M and M − c
abbrev pub road_profile : Battery → Road → Profile
road_profile B r =
    record {
      need = needs B r;
      sum = r.consumption;
      top = min B.size (left B.size r.consumption);
    }

-- a road with c > M is impassable
unfoldable pub one_road : Battery → Road → Option Profile
one_road B r = cond (drivable B B.size r) (Some (road_profile B r)) None

-- P followed by Q: need is the larger of need of P and need of Q + sum of P; sum is added; top is the smaller of top of Q
-- and top of P − sum of Q
abbrev pub joined : Profile → Profile → Profile
joined p q =
    record {
      need = max p.need (draw (pos q.need +ℤ p.sum));
      sum = p.sum +ℤ q.sum;
      top = min q.top (left p.top q.sum);
    }

-- impassable where top of P < need of Q, and where P or Q is
unfoldable pub followed_by : Option Profile → Option Profile → Option Profile
followed_by (Some p) (Some q) = cond (leb q.need p.top) (Some (joined p q)) None
followed_by (Some p) None = None
followed_by None q = None

-- a route: its first road followed by the rest
unfoldable pub profile_of : Battery → List Road → Option Profile
profile_of B [] = Some (no_roads B)
profile_of B (r ∷ rs) = followed_by (one_road B r) (profile_of B rs)
