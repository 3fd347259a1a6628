-- Read first, over labels, ways and keys as functions (specs/State.antt): the search's invariant.
-- which junctions are settled, and how many are not
mod Counting
-- it holds where a search begins: the source alone has a label, and waits
mod Beginning
-- it is kept where the junction with the greatest key is settled
mod Settling
-- it is kept where a road of that junction brings no more than is there
mod Busy
-- and where it brings more: first what stays, then the whole
mod Better
mod Relaxing
-- the ways lead back from a settled junction to the source
mod Tracing
-- at the end: the labels are the best, by the laws of the step
mod Finishing
-- Then, over the lists, what the functions ask of each other and keep.
-- what is known of the lists' sizes
pub mod Sizes
-- keys with their places
mod Packing
-- an entry of the chains and the road that it tells
pub mod Links
-- chain: one road more
mod Linking
-- relax: one road
mod Roads
-- spread: the roads of one junction, along its chain
mod Spreading
-- explore: its turns and its two ends
mod Exploring
-- explore: where it begins
mod Starting
-- seek: one search in lists that are lent
pub mod Seeking
