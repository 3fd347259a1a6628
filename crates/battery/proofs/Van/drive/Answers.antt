-- The naturals that the code works with are those of `goes` and `stays`.
use Rattle.std.proofs.Common.{arith, ◌≡◌, ◌-◌, ◌+◌, ◌≤◌, sym, ap, ◌∙◌, Some}
use Rattle.numbers.specs.Signed.{draw, gain}
use Rattle.battery.specs.Drive.{driven}
use Rattle.battery.proofs.Drive.{goes, stays}
use Rattle.battery.proofs.Next.{used_back}
use Rattle.battery.proofs.Rule.{left_is}
use Rattle.battery.proofs.Van.drive.Goals as goal

pub returns-then-self-takes : goal.returns-then-self-takes
returns-then-self-takes c =
    let e = c.drawn-takes.ensures ∙ ap draw (used_back c.requires.ranged) in
    sym (stays c.args.self c.args.road (omega arith))

pub returns : goal.returns
unfolding driven
returns c =
    let v = c.args.self in
    let r = c.args.road in
    let e = c.drawn-takes.ensures ∙ ap draw (used_back c.requires.ranged) in
    let f = c.gained-gives.ensures ∙ ap gain (used_back c.requires.ranged) in
    let h : draw r.consumption ≤ v.charge = omega arith in
    let l = left_is v.charge r.consumption in
    let x = c.saturating_sub-over.result in
    let p0 : v.charge - c.drawn-takes.result + c.gained-gives.result - x ≡ (driven v r).charge = omega arith in
    let p1 : v.drawn + c.drawn-takes.result ≡ v.drawn + draw r.consumption = omega arith in
    let p2 : v.recovered + c.gained-gives.result ≡ v.recovered + gain r.consumption = omega arith in
    let p3 : v.spilled + x ≡ (driven v r).spilled = omega arith in
    ap Some (λ i. record { battery = v.battery; charge = p0 i; drawn = p1 i; recovered = p2 i; spilled = p3 i })
    ∙ sym (goes v r h)
