-- How the roads of a file are read: which end is entered, what a road brings, and the number psi of each junction. A label
-- is an amount plus one, and 0 is none: forward the charge, backward the slack, which is the battery size less the charge
-- that is needed. No entry's promise cites this file.
use Rattle.std.specs.Prelude.{Bool, true, false, ◌&&◌, List, ℕ, zero, suc, ◌+◌, ◌-◌, min, leb, ℤ, pos, negsuc, ◌-ℤ◌}
use Rattle.std.specs.Int.Signed.{le_z}
use Rattle.numbers.specs.Signed.{draw}
use Rattle.battery.specs.declared.Battery.{Battery}
use Rattle.battery.specs.Rule.{drivable, needs, charge_after}
use Rattle.battery.specs.Rule as rule
use Rattle.battery.specs.declared.Road.{Road}
use Rattle.network.specs.Files.{road_count, road_of, potential}
use Rattle.walks.specs.Label.{Net}
use Rattle.reading.specs.declared.Sense.{Sense}
use Rattle.reading.specs.declared.Sense.TheVariants.{Forward, Backward}
use Rattle.reading.specs.declared.Reading.{Reading}

-- the two readings, with the battery B
abbrev pub forward : Battery → Reading
forward B = record { sense = Forward; battery = B }

abbrev pub backward : Battery → Reading
backward B = record { sense = Backward; battery = B }

-- the greatest label: a full battery, or full slack
abbrev pub most_label : Battery → ℕ
most_label B = B.size + 1

-- the junction where a road is entered, and the one where it is left
abbrev pub entered : Sense → Road → ℕ
entered Forward r = r.tail
entered Backward r = r.head

abbrev pub left : Sense → Road → ℕ
left Forward r = r.head
left Backward r = r.tail

abbrev pub label_if : Bool → ℕ → ℕ
label_if true b = suc b
label_if false b = 0

-- forward: the battery rule
abbrev pub step_forward : Battery → Road → ℕ → ℕ
step_forward B r zero = 0
step_forward B r (suc b) = label_if (drivable B b r) (charge_after B b r)

-- backward, M being the battery size: to have n left at the head, a van needs the larger of n + c and the road's own need at
-- the tail. With the slack x = M − n the road is passable where c ≤ x and its need ≤ M, and the slack at the tail is the smaller
-- of x − c and M − need
abbrev pub step_backward : Battery → Road → ℕ → ℕ
step_backward B r zero = 0
step_backward B r (suc x) =
    label_if (le_z r.consumption (pos x) && leb (needs B r) B.size)
    (min (rule.left x r.consumption) (B.size - needs B r))

-- the charge that a backward label tells: the battery size less the slack, and −1 where there is none
abbrev pub charge_of : Battery → ℕ → ℤ
charge_of B zero = negsuc 0
charge_of B (suc x) = pos (B.size - x)

-- what a road brings, from a label where it is entered
abbrev pub step_of : Sense → Battery → Road → ℕ → ℕ
step_of Forward B r l = step_forward B r l
step_of Backward B r l = step_backward B r l

-- the largest potential and, one further from 0, the least
abbrev pub most_potential : ℕ
most_potential = 2147483647

abbrev pub least_potential : ℤ
least_potential = negsuc most_potential

-- the number of a junction with the potential p: forward, how far p stands below the largest; backward, how far above the least
abbrev pub psi_forward : ℤ → ℕ
psi_forward p = draw (pos most_potential -ℤ p)

abbrev pub psi_backward : ℤ → ℕ
psi_backward p = draw (p -ℤ least_potential)

abbrev pub psi_of : Sense → ℤ → ℕ
psi_of Forward p = psi_forward p
psi_of Backward p = psi_backward p

abbrev pub psi : Reading → List ℕ → ℕ → ℕ
psi rd ns v = psi_of rd.sense (potential ns v)

-- the roads of a file, so read
unfoldable pub net : Reading → List ℕ → Net
net rd rs =
    record {
      roads =
          record {
            count = road_count rs;
            tail = λ k. entered rd.sense (road_of rs k);
            head = λ k. left rd.sense (road_of rs k);
          };
      step = λ k l. step_of rd.sense rd.battery (road_of rs k) l;
    }
