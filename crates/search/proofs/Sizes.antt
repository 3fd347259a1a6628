-- What the laws of the search and of its users know of the sizes of its lists; but for these, any sizes would do. Assumes
-- nothing.
use Prim.Native.Nat.{◌≤◌}
use native.Mathlib.Omega.{arith}
use Rattle.frontier.specs.Frontier.{places}
use Rattle.network.specs.Files.{most_junctions}
use Rattle.search.specs.Sizes.{most_places, most_ways}

-- junctions fit the places
pub junctions_fit : most_junctions ≤ most_places
junctions_fit = omega arith

-- places fit the ways
pub ways_fit : most_places ≤ most_ways
ways_fit = omega arith

-- and the queue: a key tells its place
pub keys_fit : most_places ≤ places
keys_fit = omega arith
