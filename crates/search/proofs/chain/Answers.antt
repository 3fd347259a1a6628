-- The road in hand is one of the file, and it is entered at a junction.
use Rattle.std.proofs.Common.{◌≡◌, ℕ, ◌<◌, List, arith}
use Rattle.network.specs.Files.{road_count, most_roads}
use Rattle.reading.proofs.Net.{count_is}
use Rattle.reading.specs.Reading.{net}
use Rattle.reading.specs.declared.Reading.{Reading}
use Rattle.search.specs.Chains.{ChainAsks}
use Rattle.search.specs.Sizes.{most_places}
use Rattle.search.proofs.Linking.{chained_more}
use Rattle.search.proofs.chain.Goals as goal

module _ (rd : Reading) (rs : List ℕ) {chains : List ℕ} (a : ChainAsks (net rd rs).roads chains) {n k : ℕ} (n_is : n ≡ road_count rs)
    (h : k < n) where
  few : k < most_roads
  few = omega (arith, a.few, count_is rd rs)

  placed : {v : ℕ} → v ≡ (net rd rs).roads.tail k → v < most_places
  placed e = omega (arith, a.within k (omega (arith, count_is rd rs)))

pub offset_bounds-chains-v : goal.offset_bounds-chains-v
offset_bounds-chains-v c =
    omega (arith, placed c.args.map.reading _ c.requires c.count-k-end.ensures c.loop-k-test.true c.entered-v.ensures)

pub bounds-chains-v : goal.bounds-chains-v
bounds-chains-v c =
    omega (arith, placed c.args.map.reading _ c.requires c.count-k-end.ensures c.loop-k-test.true c.entered-v.ensures)

pub bounds-chains-k : goal.bounds-chains-k
bounds-chains-k c = omega (arith, few c.args.map.reading _ c.requires c.count-k-end.ensures c.loop-k-test.true)

pub overflow_cast-chains : goal.overflow_cast-chains
overflow_cast-chains c = omega (arith, few c.args.map.reading _ c.requires c.count-k-end.ensures c.loop-k-test.true)

pub offset_bounds-chains-v-in-loop-k : goal.offset_bounds-chains-v-in-loop-k
offset_bounds-chains-v-in-loop-k c =
    omega (arith, placed c.args.map.reading _ c.requires c.count-k-end.ensures c.loop-k-test.true c.entered-v.ensures)

pub bounds-chains-v-in-loop-k : goal.bounds-chains-v-in-loop-k
bounds-chains-v-in-loop-k c =
    omega (arith, placed c.args.map.reading _ c.requires c.count-k-end.ensures c.loop-k-test.true c.entered-v.ensures)

pub loop-k-preserved : goal.loop-k-preserved
loop-k-preserved c =
    chained_more c.loop-k.invariant (omega arith)
    (few c.args.map.reading _ c.requires c.count-k-end.ensures c.loop-k-test.true) c.entered-v.ensures
    (placed c.args.map.reading _ c.requires c.count-k-end.ensures c.loop-k-test.true c.entered-v.ensures)
