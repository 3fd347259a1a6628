-- Functions changed at one place. Assumes nothing.
use mathlib.Core.Path.{◌≡◌, refl}
use mathlib.Core.Logic.{◌≢◌}
use Prim.Native.Nat.{ℕ, ◌<◌}
use native.Mathlib.Decide.{ℕ_discrete}
use native.Mathlib.Omega.{arith}
use Rattle.lists.specs.Lists.{Put}

pick_dec : {P : Type 0} → Dec P → ℕ → ℕ → ℕ
pick_dec (yes p) x y = x
pick_dec (no p) x y = y

-- f with x at a
pub put : (ℕ → ℕ) → ℕ → ℕ → ℕ → ℕ
put f a x i = pick_dec (ℕ_discrete i a) x (f i)

pub put_is : (f : ℕ → ℕ) (a x : ℕ) → Put f (put f a x) a x
unfolding put pick_dec
put_is f a x = record { here = at_a (ℕ_discrete a a); rest = λ i h. at_i i h (ℕ_discrete i a) }
  where
    at_a : (d : Dec (a ≡ a)) → pick_dec d x (f a) ≡ x
    at_a (yes p) = refl
    at_a (no p) = absurd (p refl)

    at_i : (i : ℕ) → i ≢ a → (d : Dec (i ≡ a)) → pick_dec d x (f i) ≡ f i
    at_i i h (yes p) = absurd (h p)
    at_i i h (no p) = refl

-- where all was 0, only the place changed can have something
pub put_only : {f f' : ℕ → ℕ} {a x : ℕ} → Put f f' a x → ((v : ℕ) → f v ≡ 0) → (v : ℕ) → 0 < f' v → v ≡ a
put_only {a = a} p none v h = go (ℕ_discrete v a)
  where
    go : Dec (v ≡ a) → v ≡ a
    go (yes e) = e
    go (no e) = absurd (omega (arith, p.rest v e, none v))
