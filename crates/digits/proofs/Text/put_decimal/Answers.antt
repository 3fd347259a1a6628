-- The kit writes the same digits.
use Rattle.std.proofs.Common.{arith, ◌∙◌}
use Rattle.digits.proofs.Decimal.{at_most_twenty, decimal_is}
use Rattle.digits.proofs.Text.put_decimal.Goals as goal

pub returns : goal.returns
returns c =
    let n = c.args.n in
    let d = c.decimal-k in
    let p = c.put.ensures in
    let l = at_most_twenty n d.result c.ranges.n.fits d.ensures.len in
    record {
      puts = rw (d.ensures.digits ∙ decimal_is n d.result c.ranges.n.fits d.ensures.len) at p;
      few = omega (arith, p.len, d.ensures.in_bounds.0);
    }
