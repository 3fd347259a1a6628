-- Stores into lists, and new lists. Assumes nothing.
use mathlib.Core.Path.{◌≡◌, refl, ap}
use mathlib.Core.List.{List, [], ◌∷◌, ◌++◌}
use Prim.Native.Nat.{ℕ, zero, suc, ◌<◌}
use native.Mathlib.Omega.{arith}
use lib.ListN.{length, set, take, replicate}
use lib.Seq.{get_or-set_same, get_or-set_other}
use Rattle.lists.specs.Lists.{entry, AllZero, Put}

pub set_put : (xs : List ℕ) {ys : List ℕ} {a x : ℕ} → a < length xs → ys ≡ set xs a x → Put (entry xs) (entry ys) a x
set_put xs {ys} {a} {x} l e = rw e (record { here = get_or-set_same xs a x 0 l; rest = λ i h. get_or-set_other xs a i x 0 h })

-- a store at the end of a front of xs, before ys
pub set_take_end : (xs ys : List ℕ) (i x : ℕ) → i < length xs → set (take (suc i) xs ++ ys) i x ≡ take i xs ++ (x ∷ ys)
set_take_end [] ys i x h = absurd (omega arith)
set_take_end (y ∷ xs) ys zero x h = refl
set_take_end (y ∷ xs) ys (suc i) x h = ap (λ (zs : List ℕ). y ∷ zs) (set_take_end xs ys i x (omega arith))

pub new_zero : (n : ℕ) → AllZero (replicate n 0)
new_zero zero i = refl
new_zero (suc n) zero = refl
new_zero (suc n) (suc i) = new_zero n i
