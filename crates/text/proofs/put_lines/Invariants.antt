-- Invariant: the lines of the first items are put, each of at most so many bytes.
use Rattle.text.proofs.Items.{Listing}
use Rattle.text.proofs.put_lines.Given as goal

abbrev pub invariant-loop-item : goal.invariant-loop-item
invariant-loop-item g l = Listing g.T.Item.line g.T.Item.most l.initial.text l.items l.text l.item-index
