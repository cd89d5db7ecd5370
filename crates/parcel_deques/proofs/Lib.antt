mod SwapSteps
mod GatherSteps
mod SharingSteps
pub mod Apart
pub mod Weights
pub mod Slips
pub mod Moves
pub mod Handing
pub mod EndSteps
pub mod Passes
pub mod BenchSteps
pub mod StealSteps
pub mod HomeSteps
