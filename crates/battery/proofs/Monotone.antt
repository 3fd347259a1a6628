-- The drive is monotone in the start charge and in the battery size, and on one fixed route the arrival rises by at most the
-- larger of the two increases. Assumes nothing.
use Rattle.std.specs.Prelude.{None, Option, Some, option_and_then}
use mathlib.Core.Path.{◌≡◌, refl, ap, subst}
use mathlib.Core.List.{List, [], ◌∷◌}
use Prim.Native.Nat.{ℕ, ◌+◌, ◌-◌, ◌≤◌, max}
use native.Mathlib.Omega.{arith}
use Rattle.battery.specs.Claims.{FixedRoute}
use Rattle.battery.specs.Drive.{fresh, drive, drive_all}
use Rattle.battery.specs.declared.Battery.{Battery}
use Rattle.battery.specs.declared.Road.{Road}
use Rattle.battery.specs.declared.Van.{Van}
use Rattle.battery.proofs.Drive.{Went, Driving, on, low, driving}

-- w has no smaller battery and no less charge than v, and neither by more than d
record Ahead (d : ℕ) (v w : Van) : Type 0 where
  pub battery_le : v.battery.size ≤ w.battery.size
  pub battery_by : w.battery.size ≤ v.battery.size + d
  pub charge_le : v.charge ≤ w.charge
  pub charge_by : w.charge ≤ v.charge + d

-- a drive that arrives, ahead of `end`
record Follows (d : ℕ) (end : Van) (came : Option Van) : Type 0 where
  pub van : Van
  pub drives : came ≡ Some van
  pub ahead : Ahead d end van

one_road : (d : ℕ) (v w : Van) (r : Road) (v' w' : Van) → Ahead d v w → Went v r v' → Went w r w' → Ahead d v' w'
one_road d v w r v' w' a g h =
    let m = ap (λ (B : Battery). B.size) g.battery_is in
    let n = ap (λ (B : Battery). B.size) h.battery_is in
    record { battery_le = omega arith; battery_by = omega arith; charge_le = omega arith; charge_by = omega arith }

follows : (d : ℕ) (v w : Van) (rs : List Road) {end : Van} → Ahead d v w → drive_all v rs ≡ Some end
    → Follows d end (drive_all w rs)
unfolding drive_all
follows d v w [] {end} a e =
    let q : v ≡ end = cc in
    record { van = w; drives = refl; ahead = subst (λ (u : Van). Ahead d u w) q a }
follows d v w (r ∷ rs) {end} a e = go (drive v r) (drive w r) (driving v r) (driving w r) e (λ x y b h. follows d x y rs b h)
  where
    go : (f g : Option Van) → Driving v r f → Driving w r g → option_and_then (λ u. drive_all u rs) f ≡ Some end
        → ((x y : Van) → Ahead d x y → drive_all x rs ≡ Some end → Follows d end (drive_all y rs))
        → Follows d end (option_and_then (λ u. drive_all u rs) g)
    go (Some x) (Some y) (on p) (on q) h k = k x y (one_road d v w r x y a p q) h
    go (Some x) None (on p) (low q) h k = let b = p.enough in let c = a.charge_le in absurd (omega arith)
    go None g (low p) q h k = let z : ◌≡◌ {A = ℕ} 0 1 = cc in absurd (omega arith)

-- at the start, with d the larger of the two increases
start : (B B' : Battery) (b b' : ℕ) → B.size ≤ B'.size → b ≤ b'
    → Ahead (max (B'.size - B.size) (b' - b)) (fresh B b) (fresh B' b')
start B B' b b' m s =
    record { battery_le = m; battery_by = omega arith; charge_le = s; charge_by = omega arith }

pub fixed_route : FixedRoute
fixed_route B B' b b' rs first m s e =
    let f = follows (max (B'.size - B.size) (b' - b)) (fresh B b) (fresh B' b') rs (start B B' b b' m s) e in
    record { second = f.van; drives = f.drives; no_less = f.ahead.charge_le; at_most = f.ahead.charge_by }
