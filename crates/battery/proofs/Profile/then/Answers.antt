-- The code computes `next`.
use Rattle.std.proofs.Common.{arith, ◌≡◌, max, sym, ap, ◌∙◌, Some}
use Rattle.numbers.specs.Signed.{draw, gain}
use Rattle.battery.proofs.Next.{next, next_low, next_on, used_back, sum_read, reach_is}
use Rattle.battery.proofs.Profile.then.Goals as goal

pub returns-then-self-takes : goal.returns-then-self-takes
returns-then-self-takes c =
    let e = c.drawn-takes.ensures ∙ ap draw (used_back c.requires.ranged) in
    sym (next_low c.args.battery c.args.self c.args.road (omega arith))

pub returns : goal.returns
returns c =
    let p = c.args.self in
    let r = c.args.road in
    let e = c.drawn-takes.ensures ∙ ap draw (used_back c.requires.ranged) in
    let f = c.gained-gives.ensures ∙ ap gain (used_back c.requires.ranged) in
    let m = reach_is c.requires e c.max-reach.ensures.value c.max-reach.type_inv in
    let need : c.max.result ≡ (next c.args.battery p r).need = c.max.ensures ∙ ap (max p.need) m in
    let top : c.min.result ≡ (next c.args.battery p r).top = omega (arith, c.min.ensures) in
    ap Some (λ i. record { need = need i; sum = sum_read c.requires i; top = top i })
    ∙ sym (next_on c.args.battery p r c.requires.kept.top_le (omega arith))
