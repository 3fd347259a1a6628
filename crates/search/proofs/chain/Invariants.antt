-- The roads below k are chained.
use Rattle.reading.specs.Reading.{net}
use Rattle.search.specs.Chains.{Chained}
use Rattle.search.proofs.chain.Given as goal

abbrev pub invariant-loop-k : goal.invariant-loop-k
invariant-loop-k l = Chained (net l.map.reading l.map.roads.now).roads l.k l.chains
