-- Numbers in a list of bytes, least byte first, as both files store them.
use Rattle.std.specs.Prelude.{Bool, true, false, List, ℕ, suc, ◌+◌, ◌-◌, ◌*◌, ◌^◌, ltb, ℤ, pos, negsuc, get_or}

-- the 16-bit number at byte i
abbrev pub u16_at : List ℕ → ℕ → ℕ
u16_at s i = get_or s i 0 + 256 * get_or s (i + 1) 0

-- the 32-bit number at byte i
abbrev pub u32_at : List ℕ → ℕ → ℕ
u32_at s i = get_or s i 0 + 256 * get_or s (i + 1) 0 + 65536 * get_or s (i + 2) 0 + 16777216 * get_or s (i + 3) 0

-- n itself, or n − 2 ^ 32
abbrev pub signed_pick : Bool → ℕ → ℤ
signed_pick true n = pos n
signed_pick false n = negsuc (2 ^ 32 - suc n)

-- what 32 bits mean in two's complement
abbrev pub signed32 : ℕ → ℤ
signed32 n = signed_pick (ltb n (2 ^ 31)) n

-- the signed 32-bit number at byte i
abbrev pub i32_at : List ℕ → ℕ → ℤ
i32_at s i = signed32 (u32_at s i)
