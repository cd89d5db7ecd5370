pub mod SharedSteps
pub mod Drawings
