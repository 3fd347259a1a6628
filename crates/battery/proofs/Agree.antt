-- A route's profile and its drive agree from every start up to a full battery, and impassable are the routes that no start drives.
-- Assumes nothing.
use Rattle.std.specs.Prelude.{None, Option, Some}
use mathlib.Core.Path.{◌≡◌, refl}
use mathlib.Core.List.{List}
use Prim.Native.Nat.{ℕ, ◌≤◌, ◌<◌, min}
use native.Mathlib.Omega.{arith}
use Rattle.battery.specs.Claims.{Arrives, Agreement, Never, ImpassableExactly}
use Rattle.battery.specs.Rule.{left}
use Rattle.battery.specs.Drive.{fresh}
use Rattle.battery.specs.Profile.{profile_of}
use Rattle.battery.specs.declared.Battery.{Battery}
use Rattle.battery.specs.declared.Road.{Road}
use Rattle.battery.specs.declared.Profile.{Profile}
use Rattle.battery.proofs.Join.{profile_kept}
use Rattle.battery.proofs.Arrive.{Tells, arrives, below, never, tells}
use Rattle.battery.specs.declared.Van.{Van}

low_at : {b : ℕ} {p : Profile} {d : Option Van} → b < p.need → Tells b (Some p) d → d ≡ None
low_at h (arrives k c) = absurd (omega arith)
low_at h (below l) = refl

arrival_at : {b : ℕ} {p : Profile} {d : Option Van} → p.need ≤ b → Tells b (Some p) d
    → Arrives d (min p.top (left b p.sum))
arrival_at h (arrives {w} k c) = record { van = w; drives = refl; charge_is = c }
arrival_at h (below l) = absurd (omega arith)

pub agreement : Agreement
agreement B b rs p e h =
    let t = rw e at (tells (fresh B b) rs h) in
    record { below = λ l. low_at l t; from = λ k. arrival_at k t }

never_at : {b : ℕ} {d : Option Van} → Tells b None d → d ≡ None
never_at never = refl

-- a passable route is driven from its need
only : (B : Battery) (rs : List Road) → Never B rs → (x : Option Profile) → profile_of B rs ≡ x → profile_of B rs ≡ None
only B rs f (Some p) e =
    let h : p.need ≤ B.size = (profile_kept B rs e).need_le in
    let a = (agreement B p.need rs p e h).from (omega arith) in
    let k = f p.need h in
    let z : ◌≡◌ {A = ℕ} 0 1 = cc (a.drives, k) in
    absurd (omega arith)
only B rs f None e = e

pub impassable_exactly : (B : Battery) (rs : List Road) → ImpassableExactly B rs
impassable_exactly B rs =
    record {
      never = λ e b h. never_at (rw e at (tells (fresh B b) rs h));
      only = λ f. only B rs f (profile_of B rs) refl;
    }
