-- One search in lists that are lent. Assumes nothing.
use mathlib.Core.List.{List}
use Prim.Native.Nat.{ℕ}
use native.Mathlib.Omega.{arith}
use Rattle.reading.specs.Reading.{net}
use Rattle.reading.specs.Asks.{Readable}
use Rattle.reading.specs.declared.Reading.{Reading}
use Rattle.reading.proofs.Net.{tails_in, count_is}
use Rattle.search.specs.Chains.{Unchained, ChainAsks}
use Rattle.search.proofs.Sizes.{junctions_fit}

pub chain_asks : (rd : Reading) {ns rs chains : List ℕ} → Readable rd.battery ns rs → Unchained chains
    → ChainAsks (net rd rs).roads chains
chain_asks rd {ns} {rs} r none =
    record {
      few = omega (arith, count_is rd rs, r.few_roads);
      within = λ k h. omega (arith, tails_in rd ns rs r k (omega (arith, count_is rd rs)), r.few, junctions_fit);
      empty = none;
    }
