pub mod Diff
pub mod Sign
pub mod Bits
