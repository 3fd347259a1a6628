-- One line more, of at most so many bytes.
use Rattle.text.proofs.Items.{listing_none, listing_more}
use Rattle.text.proofs.put_lines.Goals as goal

pub loop-item-init : goal.loop-item-init
loop-item-init g c = listing_none g.T.Item.line g.T.Item.most c.args.text.now c.args.items.now

pub loop-item-preserved : goal.loop-item-preserved
loop-item-preserved g c =
    listing_more g.T.Item.line g.T.Item.most c.item-item.result c.loop-item.invariant c.loop-item-test.true c.item-item.is
    c.put_line.ensures
