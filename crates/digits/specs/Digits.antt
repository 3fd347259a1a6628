-- Numbers in decimal digits: 48 is the byte of 0, 57 that of 9.
use Rattle.std.specs.Prelude.{List, [], ◌∷◌, ℕ, ◌+◌, ◌-◌, ◌*◌, ◌≤◌}

-- nothing but digits
pub data AllDigits : List ℕ → Type 0 where
  none : AllDigits []
  more : {x : ℕ} {t : List ℕ} → 48 ≤ x → x ≤ 57 → AllDigits t → AllDigits (x ∷ t)

-- the number that digits spell, after those that spelled n
abbrev pub spelled : ℕ → List ℕ → ℕ
spelled n [] = n
spelled n (x ∷ t) = spelled (n * 10 + (x - 48)) t
