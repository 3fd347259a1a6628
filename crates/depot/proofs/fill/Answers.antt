use Rattle.std.proofs.Common.{arith}
use Rattle.depot.proofs.Filling.{write_asks, numbered}
use Rattle.depot.proofs.fill.Goals as goal

pub write_charges-requires : goal.write_charges-requires
write_charges-requires c = write_asks c.requires c.label_all.ensures (omega arith)

pub returns : goal.returns
returns c = numbered c.requires c.label_all.ensures c.write_charges.ensures
