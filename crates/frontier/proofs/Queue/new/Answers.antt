use Rattle.std.proofs.Common.{ℕ, ◌+◌, refl, arith}
use Rattle.std.proofs.lemmas.List.{length-replicate}
use Rattle.lists.proofs.Stores.{new_zero}
use Rattle.frontier.specs.Frontier.{keys_from, places}
use Rattle.frontier.proofs.Empty.{empty, empty_top}
use Rattle.frontier.proofs.Queue.new.Goals as goal

pub returns : goal.returns
returns c =
    let n = keys_from + places in
    record {
      queued = record { frontier = empty _ (new_zero n) (omega (arith, length-replicate {A = ℕ} n 0)) refl; best = empty_top _ (new_zero n) };
      zeros = new_zero n;
    }
