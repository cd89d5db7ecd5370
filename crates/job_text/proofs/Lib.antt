pub mod Ascending
pub mod JobRoots
pub mod LineSteps
pub mod OneMore
pub mod ShapeTypes
pub mod Starts
pub mod Worked
pub mod WorldsMade
