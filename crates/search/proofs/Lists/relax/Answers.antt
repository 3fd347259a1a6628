use Rattle.reading.proofs.Net.{head_at, step_at, step_asks}
use Rattle.search.proofs.Roads.{key_asks, offer_asks, relax_keeps}
use Rattle.search.proofs.Lists.relax.Goals as goal

pub step-brings-requires : goal.step-brings-requires
step-brings-requires c =
    step_asks c.args.map.reading _ _ c.requires.readable _ c.requires.road _ _ c.road_at-road.ensures c.requires.some c.requires.label_le

pub key-requires : goal.key-requires
key-requires c = key_asks c.requires (head_at _ _ _ _ c.road_at-road.ensures c.left-v.ensures)

pub take-requires : goal.take-requires
take-requires c =
    let road = c.road_at-road.ensures in
    offer_asks c.requires (head_at _ _ _ _ road c.left-v.ensures) (step_at _ _ _ _ road _ c.step-brings.ensures)
    c.key.ensures.value c.key.ensures.upper_bound

pub returns : goal.returns
returns c =
    let road = c.road_at-road.ensures in
    relax_keeps c.requires (head_at _ _ _ _ road c.left-v.ensures) (step_at _ _ _ _ road _ c.step-brings.ensures)
    c.key.ensures.value c.take.ensures
