pub mod Grown
pub mod Drawing
pub mod Rounds
