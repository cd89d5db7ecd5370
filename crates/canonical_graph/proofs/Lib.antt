pub mod Ranks
pub mod Rows
pub mod Turned
pub mod Raising
