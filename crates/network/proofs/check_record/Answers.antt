-- 9 is asked of a record that fails neither 7 nor 8.
use Rattle.std.proofs.Common.{sym}
use Rattle.network.proofs.Records.{road_sound}
use Rattle.network.proofs.check_record.Goals as goal

pub check_potential-requires : goal.check_potential-requires
check_potential-requires c = let s = road_sound _ _ _ (sym c.in_ok-check_road.ensures) in (s.tail_lt, s.head_lt)
