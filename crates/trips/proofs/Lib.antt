-- a trail comes to its source, there is one, and it grows
mod Trailing
-- count_back and write_back: a trail counted and written, road by road from its end
mod Writing
-- find: the route that a search writes, or the reason why there is none
mod Finding
