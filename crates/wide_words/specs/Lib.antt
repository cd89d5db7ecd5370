pub mod WideSpaces
pub mod WideHistory
pub mod WideLaws
pub mod WideCounts
pub mod WideFields
pub mod WideReadings
