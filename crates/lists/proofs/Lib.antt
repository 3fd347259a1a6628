-- a change at one place, of functions
pub mod Puts
-- a store is such a change, of lists; new lists
pub mod Stores
-- how many values are 0, after a change
pub mod Zeros
