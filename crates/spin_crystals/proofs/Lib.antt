pub mod Lookups
pub mod Replaced
pub mod Edges
pub mod Bits
pub mod Turning
pub mod Lowering
pub mod Strings
pub mod Halves
pub mod Places
pub mod SignWeights
pub mod VectorLaws
pub mod DigitLaws
mod Worked
