-- The charge to set off with: one number a junction, every charge from it on is enough, and the depot has 0. Assumes nothing.
use mathlib.Core.Path.{◌≡◌, refl, ap}
use mathlib.Core.List.{List, []}
use Prim.Native.Nat.{ℕ}
use native.Mathlib.Omega.{arith}
use lib.IntN.{pos}
use Rattle.battery.specs.declared.Battery.{Battery}
use Rattle.battery.proofs.Monotone.{fixed_route}
use Rattle.battery.specs.Drive.{fresh, drive_all}
use Rattle.walks.specs.Walk.{stay}
use Rattle.journeys.specs.Claims.{OneNumber, MoreIsEnough}
use Rattle.journeys.specs.SetOff.{SetOff, least, never}
use Rattle.journeys.specs.Walks.{roads_of}

pub one_number : OneNumber
one_number B rs v depot x y (least b e m) (least c f n) = let p : b ≡ c = omega (arith, m c f, n b e) in ap pos p
one_number B rs v depot x y (least b e m) (never n) = absurd (n b e)
one_number B rs v depot x y (never n) (least c f m) = absurd (n c f)
one_number B rs v depot x y (never n) (never m) = refl

pub more_is_enough : MoreIsEnough
more_is_enough B rs v depot b c e h full =
    let f = fixed_route B B b c (roads_of rs e.by) e.feasible.van (omega arith) h e.feasible.drives in
    record {
      to_full = full;
      by = e.by;
      walk = e.walk;
      feasible = record { van = f.second; drives = f.drives };
    }

-- from 0 the walk of no roads is feasible
pub depot_number : (B : Battery) (rs : List ℕ) (depot : ℕ) → SetOff B rs depot depot (pos 0)
unfolding drive_all
depot_number B rs depot =
    least 0 (record { to_full = omega arith; by = []; walk = stay; feasible = record { van = fresh B 0; drives = refl } })
    (λ b e. omega arith)
