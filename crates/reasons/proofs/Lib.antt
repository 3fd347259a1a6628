-- a junction more is marked and listed
mod Listing
-- mark: the roads of one junction, along its chain
mod Marking
-- reach: the roads of one listed junction after another
mod Reaching
-- leads: whether the target is marked
mod Leading
-- reason: what the two tell of 10, 16 and 17
mod Reasoning
