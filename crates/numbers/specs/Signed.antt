-- A signed number as two naturals, one of which is 0: z is draw z − gain z.
use Rattle.std.specs.Prelude.{ℕ, suc, ℤ, pos, negsuc}

-- the larger of 0 and z
abbrev pub draw : ℤ → ℕ
draw (pos n) = n
draw (negsuc n) = 0

-- the larger of 0 and −z
abbrev pub gain : ℤ → ℕ
gain (pos n) = 0
gain (negsuc n) = suc n
