-- the greatest of a group of eight, and of all groups but one, after a change
mod Level
-- the greatest key
mod Top
-- raise and remove: a key raised, a key taken out
mod Changes
-- a queue in which nothing waits
pub mod Empty
-- pop: the place with the greatest key
mod Popping
