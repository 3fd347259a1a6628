use Rattle.std.proofs.Common.{arith, rules, sym, ap, ◌∙◌}
use Rattle.refusals.proofs.Faults.{from_go, from_stop, from_end}
use Rattle.network.specs.Check.{record_fault}
use Rattle.network.specs.Files.{road_count}
use Rattle.network.proofs.check_records.Invariants.{faults}
use Rattle.network.proofs.check_records.Goals as goal

pub loop-k-preserved : goal.loop-k-preserved
loop-k-preserved c =
    let a = c.args in
    let e = ap (record_fault a.nodes.now c.loop-k.k) (sym c.road_at.ensures) ∙ sym c.in_default.ensures in
    (search rules, sym (from_go (faults a.nodes.now a.roads.now) (road_count a.roads.now) c.loop-k.k (omega arith) e) ∙ c.loop-k.invariant.1)

pub returns-then-count-k : goal.returns-then-count-k
returns-then-count-k c =
    let a = c.args in
    sym (from_end (faults a.nodes.now a.roads.now) (road_count a.roads.now) c.loop-k.k c.if-count-k.true) ∙ c.loop-k.invariant.1

pub returns-in-Err : goal.returns-in-Err
returns-in-Err c =
    let a = c.args in
    let e = ap (record_fault a.nodes.now c.loop-k.k) (sym c.road_at.ensures) ∙ sym c.in-Err.ensures in
    sym (from_stop (faults a.nodes.now a.roads.now) (road_count a.roads.now) c.loop-k.k _ (omega arith) e) ∙ c.loop-k.invariant.1
