pub mod WordBounds
pub mod ShapeWeights
pub mod AskedAnswers
pub mod OverCodes
