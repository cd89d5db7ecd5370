pub mod Cuts
pub mod Spaced
pub mod Values
