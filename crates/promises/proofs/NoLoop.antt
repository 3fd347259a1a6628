-- A walk that returns to a junction never arrives with more than the walk without the loop. Assumes nothing.
use Rattle.std.specs.Prelude.{None, Option, Some}
use mathlib.Core.Path.{◌≡◌, refl, ap}
use mathlib.Core.List.{◌++◌}
use Prim.Native.Nat.{suc, ◌≤◌}
use native.Mathlib.Omega.{arith}
use Rattle.battery.specs.Drive.{fresh, drive_all}
use Rattle.battery.specs.declared.Van.{Van}
use Rattle.journeys.specs.Walks.{roads_of}
use Rattle.walks.proofs.Loops.{loop_no_more}
use Rattle.reading.proofs.Forward.{label, label_after}
use Rattle.reading.proofs.Laws.{laws_of}
use Rattle.reading.specs.Reading.{forward, psi, net}
use Rattle.promises.specs.Claims.{LoopNoMore}

-- a drive that arrives with no less
at_least : (w : Van) (d : Option Van) → suc w.charge ≤ label d → (u : Van) × (d ≡ Some u) × (w.charge ≤ u.charge)
at_least w (Some u) h = (u, refl, omega arith)
at_least w None h = absurd (omega arith)

pub no_loop : LoopNoMore
unfolding net
no_loop ns rs B b v to loop on w passing walk e =
    let h = loop_no_more (net (forward B) rs) (psi (forward B) ns) (laws_of (forward B) ns rs passing) v (suc b) to loop on walk in
    at_least w (drive_all (fresh B b) (roads_of rs (to ++ on)))
    (omega (arith, h, label_after B b rs (to ++ (loop ++ on)), ap label e, label_after B b rs (to ++ on)))
