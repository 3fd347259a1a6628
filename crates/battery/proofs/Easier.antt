-- The drive over roads that take no more: with no smaller battery and no less charge it arrives too, and with no less.
-- Assumes nothing.
use Rattle.std.specs.Prelude.{None, Option, Some, option_and_then}
use mathlib.Core.Path.{◌≡◌, refl, ap, subst}
use mathlib.Core.Bool.{true}
use mathlib.Core.List.{List, [], ◌∷◌}
use Prim.Native.Nat.{ℕ, ◌≤◌}
use native.Mathlib.Omega.{arith}
use lib.Signed.{le_z}
use Rattle.numbers.proofs.Diff.{draw_mono, gain_mono}
use Rattle.battery.specs.Drive.{drive, drive_all}
use Rattle.battery.specs.declared.Battery.{Battery}
use Rattle.battery.specs.declared.Road.{Road}
use Rattle.battery.specs.declared.Van.{Van}
use Rattle.battery.proofs.Drive.{Went, Driving, on, low, driving}

-- two lists of roads, place by place: no road of the second has a higher consumption
pub data Easier : List Road → List Road → Type 0 where
  none : Easier [] []
  more : {r r' : Road} {rs rs' : List Road} → le_z r'.consumption r.consumption ≡ true → Easier rs rs'
      → Easier (r ∷ rs) (r' ∷ rs')

-- w has no smaller battery and no less charge than v
pub record Above (v w : Van) : Type 0 where
  pub battery_le : v.battery.size ≤ w.battery.size
  pub charge_le : v.charge ≤ w.charge

-- a drive that arrives above `end`
pub record Arrives (end : Van) (came : Option Van) : Type 0 where
  pub van : Van
  pub drives : came ≡ Some van
  pub above : Above end van

one_road : {v w v' w' : Van} (r r' : Road) → le_z r'.consumption r.consumption ≡ true → Above v w
    → Went v r v' → Went w r' w' → Above v' w'
one_road r r' e a g h =
    let d = draw_mono r'.consumption r.consumption e in
    let c = gain_mono r'.consumption r.consumption e in
    let m = ap (λ (B : Battery). B.size) g.battery_is in
    let n = ap (λ (B : Battery). B.size) h.battery_is in
    record { battery_le = omega arith; charge_le = omega arith }

pub easier_arrives : {v w end : Van} {rs rs' : List Road} → Easier rs rs' → Above v w → drive_all v rs ≡ Some end
    → Arrives end (drive_all w rs')
unfolding drive_all
easier_arrives {v} {w} {end} none a e =
    let q : v ≡ end = cc in
    record { van = w; drives = refl; above = subst (λ (u : Van). Above u w) q a }
easier_arrives {v} {w} {end} (more {r} {r'} {rs} {rs'} h s) a e =
    go (drive v r) (drive w r') (driving v r) (driving w r') e (λ x y b k. easier_arrives s b k)
  where
    go : (f g : Option Van) → Driving v r f → Driving w r' g → option_and_then (λ u. drive_all u rs) f ≡ Some end
        → ((x y : Van) → Above x y → drive_all x rs ≡ Some end → Arrives end (drive_all y rs'))
        → Arrives end (option_and_then (λ u. drive_all u rs') g)
    go (Some x) (Some y) (on p) (on q) l k = k x y (one_road r r' h a p q) l
    go (Some x) None (on p) (low q) l k =
        let b = p.enough in
        let c = a.charge_le in
        let d = draw_mono r'.consumption r.consumption h in
        absurd (omega arith)
    go None g (low p) q l k = let z : ◌≡◌ {A = ℕ} 0 1 = cc in absurd (omega arith)
