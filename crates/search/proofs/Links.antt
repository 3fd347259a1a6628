-- An entry of the chains and the road that it tells. Assumes nothing.
use Rattle.std.proofs.Common.{◌≡◌, ℕ, zero, suc, Option, Some, None, refl}
use Rattle.search.specs.Chains.{linked}

-- the entry that tells it
abbrev pub entry_of : Option ℕ → ℕ
entry_of None = 0
entry_of (Some k) = suc k

pub entry_linked : (x : ℕ) → entry_of (linked x) ≡ x
entry_linked zero = refl
entry_linked (suc k) = refl
