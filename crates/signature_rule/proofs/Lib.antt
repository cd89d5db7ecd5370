pub mod Signs
pub mod PassSteps
pub mod BothPasses
pub mod Lifting
pub mod Lanes
pub mod Vectors
