-- The search has ended; where the target has a label, its trail is counted and written.
use Rattle.std.proofs.Common.{arith}
use Rattle.trips.proofs.Finding.{trailed, write_asks, finds_route}
use Rattle.trips.proofs.find.Goals as goal

pub count_back-count-requires : goal.count_back-count-requires
count_back-count-requires c = trailed c.requires c.seek.ensures (omega arith) (omega arith)

pub write_back-requires : goal.write_back-requires
write_back-requires c =
    write_asks c.requires c.seek.ensures (omega arith) (omega arith) c.count_back-count.ensures

pub returns : goal.returns
returns c =
    finds_route c.requires c.seek.ensures (omega arith) (omega arith) c.count_back-count.ensures c.write_back.ensures
