mod Worked
pub mod Histories
pub mod SoundStates
pub mod VertexLists
pub mod Counting
pub mod Fitting
pub mod ArrowPlaces
pub mod CellLists
pub mod Owing
pub mod Keeping
pub mod Components
pub mod Growing
pub mod Drawing
pub mod DeskSteps
pub mod OwnActs
