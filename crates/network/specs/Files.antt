-- The two files of document 01: records of one fixed size with no header. ns and rs are their bytes.
use Rattle.std.specs.Prelude.{◌≡◌, Bool, true, ◌&&◌, List, ℕ, ◌+◌, ◌*◌, ◌/◌, ◌%◌, ◌<◌, ltb, leb, eqb, ℤ, pos, neg_ℤ, ◌+ℤ◌, ◌-ℤ◌, length}
use Rattle.std.specs.Int.Signed.{le_z}
use Rattle.numbers.specs.Bytes.{u16_at, i32_at}
use Rattle.battery.specs.Rule.{most_consumption}
use Rattle.battery.specs.declared.Road.{Road}

abbrev pub junction_bytes : ℕ
junction_bytes = 4

abbrev pub road_bytes : ℕ
road_bytes = 8

abbrev pub most_junctions : ℕ
most_junctions = 2048

abbrev pub most_roads : ℕ
most_roads = 8192

-- how many records each file has
abbrev pub junctions : List ℕ → ℕ
junctions ns = length ns / junction_bytes

abbrev pub road_count : List ℕ → ℕ
road_count rs = length rs / road_bytes

-- junction file: 1 to 2,048 whole records
abbrev pub junction_file : List ℕ → Bool
junction_file ns = ltb 0 (length ns) && (eqb (length ns % junction_bytes) 0 && leb (junctions ns) most_junctions)

-- road file: 0 to 8,192 whole records
abbrev pub road_file : List ℕ → Bool
road_file rs = eqb (length rs % road_bytes) 0 && leb (road_count rs) most_roads

-- the potential of junction v: a signed number
abbrev pub potential : List ℕ → ℕ → ℤ
potential ns v = i32_at ns (v * junction_bytes)

-- road k: tail and head (unsigned 16 bits), consumption (signed 32 bits)
abbrev pub road_of : List ℕ → ℕ → Road
road_of rs k =
    record {
      tail = u16_at rs (k * road_bytes);
      head = u16_at rs (k * road_bytes + 2);
      consumption = i32_at rs (k * road_bytes + 4);
    }

-- v is a junction
abbrev pub is_junction : List ℕ → ℕ → Bool
is_junction ns v = ltb v (junctions ns)

-- consumption lies in −200,000,000 to 200,000,000
abbrev pub in_range : ℤ → Bool
in_range c = le_z (neg_ℤ (pos most_consumption)) c && le_z c (pos most_consumption)

-- a road passes when consumption − potential(tail) + potential(head) is 0 or more
abbrev pub passes : ℤ → ℤ → ℤ → Bool
passes c p q = le_z (pos 0) (c -ℤ p +ℤ q)

-- all roads pass
pub record Passing (ns rs : List ℕ) : Type 0 where
  pub pass : (k : ℕ) → k < road_count rs
      → passes (road_of rs k).consumption (potential ns (road_of rs k).tail) (potential ns (road_of rs k).head) ≡ true
