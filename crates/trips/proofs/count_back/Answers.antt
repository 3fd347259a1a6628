-- The trail goes on from v: its way is a road, and there are ways left.
use Rattle.std.proofs.Common.{arith}
use Rattle.reading.proofs.Net.{count_is}
use Rattle.trips.proofs.Trailing.{further, trail_le}
use Rattle.trips.proofs.Writing.{count_next, count_done}
use Rattle.trips.proofs.count_back.Goals as goal

pub offset_bounds-ways-v : goal.offset_bounds-ways-v
offset_bounds-ways-v c = omega (arith, (further c.loop-v.invariant.walked.trail c.loop-v-test.true).within)

pub bounds-ways-v : goal.bounds-ways-v
bounds-ways-v c = (further c.loop-v.invariant.walked.trail c.loop-v-test.true).within

pub entered-v-requires : goal.entered-v-requires
entered-v-requires c =
    omega (
      arith,
      (further c.loop-v.invariant.walked.trail c.loop-v-test.true).road,
      count_is c.args.map.reading c.args.map.roads.now,
    )

pub overflow_add-count : goal.overflow_add-count
overflow_add-count c =
    let l = c.loop-v.invariant in
    omega (arith, l.few, l.walked.count_is, trail_le (further l.walked.trail c.loop-v-test.true).rest)

pub loop-v-smaller : goal.loop-v-smaller
loop-v-smaller c =
    let l = c.loop-v.invariant in
    omega (arith, l.few, l.walked.count_is, trail_le (further l.walked.trail c.loop-v-test.true).rest)

pub loop-v-preserved : goal.loop-v-preserved
loop-v-preserved c =
    count_next c.loop-v.invariant c.loop-v-test.true c.entered-v.ensures

pub returns : goal.returns
returns c = count_done c.loop-v.invariant c.loop-v-test.false
