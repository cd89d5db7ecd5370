mod Worked
pub mod SignTexts
pub mod Spacing
pub mod Coordinates
pub mod WordTexts
pub mod TokenSteps
pub mod Rows
pub mod Boxes
pub mod Orders
pub mod VectorSpaces
pub mod Tops
pub mod Written
pub mod FilledRows
pub mod HighestTops
pub mod TopWeights
pub mod LetterTexts
