use Rattle.std.proofs.Common.{rules}
use Rattle.promises.specs.Order.{drive_asked}
use Rattle.orders.proofs.check_drive.Goals as goal

pub returns-in_err-and : goal.returns-in_err-and
returns-in_err-and c = search (rules, drive_asked)
