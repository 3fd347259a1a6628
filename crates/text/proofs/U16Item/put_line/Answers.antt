-- A number of 16 bits has at most five digits.
use Rattle.std.proofs.Common.{arith}
use Rattle.digits.proofs.Decimal.{short_line}
use Rattle.text.proofs.U16Item.put_line.Goals as goal

pub returns : goal.returns
returns c =
    let puts = c.put_number_line.ensures.puts in
    record { puts = rw (← c.from.ensures) puts; few = omega (arith, puts.len, short_line c.from.result (omega arith)) }
