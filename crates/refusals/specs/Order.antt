-- The order of refusals: the first test that fails gives its refusal.
use Rattle.std.specs.Prelude.{Bool, true, false, ℕ, zero, suc, ◌+◌, Result, Ok, Err}
use Rattle.refusals.specs.declared.Refusal.{Refusal}

-- what a check comes to: passed, or refused
abbrev pub Checked : Type 0
Checked = Result (Unit {0}) Refusal

-- refused with r unless the test holds
abbrev pub unless : Bool → Refusal → Checked
unless true r = Ok tt
unless false r = Err r

-- the first of two faults
abbrev pub first : Checked → Checked → Checked
first (Ok u) b = b
first (Err r) b = Err r

-- the first fault of n places from place k on
unfoldable pub first_from : (ℕ → Checked) → ℕ → ℕ → Checked
first_from f zero k = Ok tt
first_from f (suc n) k = first (f k) (first_from f n (k + 1))
