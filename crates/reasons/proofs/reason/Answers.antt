use Rattle.std.proofs.Common.{arith}
use Rattle.reading.specs.Reading.{backward}
use Rattle.reading.proofs.Laws.{best_le}
use Rattle.reasons.proofs.Reasoning.{lead_asks, more_charge, never_enough, not_joined}
use Rattle.reasons.proofs.reason.Goals as goal

pub overflow_sub-result : goal.overflow_sub-result
overflow_sub-result c =
    omega (arith, best_le (backward c.args.map.reading.battery) c.args.map.roads.now _ _ _ _ (omega arith) c.seek_again-slack.ensures)

pub returns-then-slack-gt0 : goal.returns-then-slack-gt0
returns-then-slack-gt0 c = more_charge _ _ _ _ _ c.if-slack-gt0.true c.seek_again-slack.ensures

pub leads-requires : goal.leads-requires
leads-requires c = lead_asks c.requires.readable _ (omega arith) (omega arith)

pub returns-then-leads : goal.returns-then-leads
returns-then-leads c =
    never_enough _ _ _ _ _ c.leads.ensures c.if-leads.true _ (omega arith) c.seek_again-slack.ensures

pub returns-else-leads : goal.returns-else-leads
returns-else-leads c = not_joined _ _ _ _ _ c.leads.ensures c.if-leads.false
