-- How long the lists of a search are. No promise cites this file.
use Rattle.std.specs.Prelude.{ℕ, ◌+◌}
use Rattle.network.specs.Files.{most_junctions, most_roads}

-- a place for each junction: its label, its key, the head of its chain
abbrev pub most_places : ℕ
most_places = most_junctions

-- a way for each place
abbrev pub most_ways : ℕ
most_ways = most_places

-- a head for each place, and a link for each road
abbrev pub chains_size : ℕ
chains_size = most_places + most_roads
