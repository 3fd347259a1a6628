-- The check from record k on comes to what the whole check comes to.
use Rattle.std.proofs.Common.{ℕ, List, ◌-◌, ◌≡◌, ◌≤◌}
use Rattle.refusals.specs.Order.{first_from, Checked}
use Rattle.network.specs.Check.{record_fault, records_fault}
use Rattle.network.specs.Files.{road_of}
use Rattle.network.proofs.check_records.Given as goal

abbrev pub faults : List ℕ → List ℕ → ℕ → Checked
faults ns rs k = record_fault ns k (road_of rs k)

abbrev pub invariant-loop-k : goal.invariant-loop-k
invariant-loop-k l = (l.k ≤ l.count) × (first_from (faults l.nodes l.roads) (l.count - l.k) l.k ≡ records_fault l.nodes l.roads)

abbrev pub decreases-loop-k : goal.decreases-loop-k
decreases-loop-k l = l.count - l.k
