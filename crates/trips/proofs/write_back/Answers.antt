-- The trail goes on from v as long as there are places left: its way is a road.
use Rattle.std.proofs.Common.{arith}
use Rattle.reading.proofs.Net.{count_is}
use Rattle.trips.proofs.Trailing.{further}
use Rattle.trips.proofs.Writing.{write_start, write_on, write_next, written}
use Rattle.trips.proofs.write_back.Goals as goal

pub loop-i-init : goal.loop-i-init
loop-i-init c = write_start c.requires

pub entered-v-requires : goal.entered-v-requires
entered-v-requires c =
    let l = c.loop-i.invariant in
    omega (arith, (further l.writing.walked.trail (write_on l (omega arith))).road, count_is c.args.map.reading c.args.map.roads.now)

pub loop-i-preserved : goal.loop-i-preserved
loop-i-preserved c =
    write_next c.loop-i.invariant (write_on c.loop-i.invariant (omega arith)) c.entered-v.ensures

pub returns : goal.returns
returns c = written c.loop-i.invariant (omega arith)
