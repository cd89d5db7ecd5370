pub mod Statistics
pub mod Inputs
pub mod Modes
pub mod Runs
pub mod Statuses
pub mod Laws
