-- The tests of the two files and of their records, in order.
use Rattle.std.specs.Prelude.{◌&&◌, List, ℕ, ltb}
use Rattle.battery.specs.declared.Road.{Road}
use Rattle.refusals.specs.Order.{unless, first, first_from, Checked}
use Rattle.refusals.specs.declared.Refusal.TheVariants.{JunctionFile, RoadFile, Ends, Consumption, Potential}
use Rattle.network.specs.Files.{junctions, road_count, road_of, potential, junction_file, road_file, in_range, passes}

-- 1, 2: the sizes of the two files
abbrev pub files_fault : List ℕ → List ℕ → Checked
files_fault ns rs = first (unless (junction_file ns) JunctionFile) (unless (road_file rs) RoadFile)

-- record k, where there are n junctions: 7, 8
unfoldable pub road_fault : ℕ → ℕ → Road → Checked
road_fault n k r =
    first (unless (ltb r.tail n && ltb r.head n) (Ends k)) (unless (in_range r.consumption) (Consumption k))

-- record k, whose ends are junctions: 9
unfoldable pub potential_fault : List ℕ → ℕ → Road → Checked
potential_fault ns k r = unless (passes r.consumption (potential ns r.tail) (potential ns r.head)) (Potential k)

-- record k: 7, 8, 9
abbrev pub record_fault : List ℕ → ℕ → Road → Checked
record_fault ns k r = first (road_fault (junctions ns) k r) (potential_fault ns k r)

-- all records in file order; the first that fails stops the check
abbrev pub records_fault : List ℕ → List ℕ → Checked
records_fault ns rs = first_from (λ k. record_fault ns k (road_of rs k)) (road_count rs) 0

-- network check: 1, 2, then the records
unfoldable pub check_fault : List ℕ → List ℕ → Checked
check_fault ns rs = first (files_fault ns rs) (records_fault ns rs)
