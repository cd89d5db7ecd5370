pub mod Bounds
pub mod Coordinates
pub mod Ranks
pub mod Worked
