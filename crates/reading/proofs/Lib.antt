-- a step in naturals: what is left after a road, up to a cap
mod Capped
-- each sense in naturals: its step is capped, and its numbers fall as the potentials ask
mod StepForward
mod StepBackward
-- the three laws of both, and no label above the greatest: what a search relies on
pub mod Laws
-- the methods' results are those of the network of labels
pub mod Net
-- what labels mean: forward the charge on arrival, backward the charge to set off with
pub mod Forward
pub mod Backward
