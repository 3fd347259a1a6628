-- Roads turned around, and a walk read backward over them. Assumes nothing.
use mathlib.Core.Path.{◌≡◌, refl, sym, subst}
use mathlib.Core.List.{List, [], ◌∷◌, ◌++◌, reverse, reverse-cons}
use Prim.Native.Nat.{ℕ, ◌<◌}
use Rattle.walks.specs.Walk.{Roads, Walk, stay, go}

abbrev pub turned : Roads → Roads
turned R = record { count = R.count; tail = R.head; head = R.tail }

-- one more road at the end
pub walk_then : {R : Roads} {u v : ℕ} {ks : List ℕ} → Walk R u ks v → (k : ℕ) → k < R.count → R.tail k ≡ v
    → Walk R u (ks ++ (k ∷ [])) (R.head k)
walk_then stay k h e = go k h e stay
walk_then (go j l f w) k h e = go j l f (walk_then w k h e)

pub walk_turned : {R : Roads} {v w : ℕ} {ks : List ℕ} → Walk R v ks w → Walk (turned R) w (reverse ks) v
walk_turned stay = stay
walk_turned {R} {v} {w} (go {ks = ks} k h e t) =
    subst (λ (js : List ℕ). Walk (turned R) w js v) (sym (reverse-cons k ks))
    (subst (λ (u : ℕ). Walk (turned R) w (reverse ks ++ (k ∷ [])) u) e (walk_then (walk_turned t) k h refl))
