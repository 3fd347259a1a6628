use Rattle.lists.proofs.Stores.{new_zero}
use Rattle.search.specs.Sizes.{most_places, chains_size}
use Rattle.search.proofs.Lists.new.Goals as goal

pub returns : goal.returns
returns c = record { no_road = λ v _. new_zero chains_size v; no_label = new_zero most_places; no_key = c.new.ensures }
