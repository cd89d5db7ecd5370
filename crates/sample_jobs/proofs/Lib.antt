pub mod Commands
pub mod Heads
pub mod Jobs
pub mod Lines
pub mod Sessions
pub mod Texts
pub mod Worked
pub mod Writing
