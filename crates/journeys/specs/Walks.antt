-- Walks over the road records of a file. rs is the road file, a road is named by its record number.
use Rattle.std.specs.Prelude.{◌≡◌, List, [], ◌∷◌, map, ℕ, ℤ, pos, ◌+ℤ◌, Some}
use Rattle.battery.specs.declared.Battery.{Battery}
use Rattle.walks.specs.Walk.{Roads}
use Rattle.walks.specs.Walk as walk
use Rattle.battery.specs.Drive.{fresh, drive_all}
use Rattle.battery.specs.declared.Road.{Road}
use Rattle.battery.specs.declared.Van.{Van}
use Rattle.network.specs.Files.{road_count, road_of}

-- the roads of a file
abbrev pub roads_in : List ℕ → Roads
roads_in rs = record { count = road_count rs; tail = λ k. (road_of rs k).tail; head = λ k. (road_of rs k).head }

-- a walk over the road records from junction v to junction w by the roads ks
abbrev pub Walk : List ℕ → ℕ → List ℕ → ℕ → Type 0
Walk rs v ks w = walk.Walk (roads_in rs) v ks w

-- ks visits no junction twice
abbrev pub Once : List ℕ → ℕ → List ℕ → Type 0
Once rs v ks = walk.Once (roads_in rs) v ks

-- the roads that road numbers name
abbrev pub roads_of : List ℕ → List ℕ → List Road
roads_of rs ks = map (road_of rs) ks

-- the rule can be applied at each road in turn, with the battery B and the start charge b
pub record Feasible (B : Battery) (b : ℕ) (rs ks : List ℕ) : Type 0 where
  pub van : Van
  pub drives : drive_all (fresh B b) (roads_of rs ks) ≡ Some van

-- the sum of the consumptions
abbrev pub sum_of : List Road → ℤ
sum_of [] = pos 0
sum_of (r ∷ rs) = r.consumption +ℤ sum_of rs
