pub mod Words
pub mod Texts
pub mod Parts
pub mod Histories
pub mod Cases
pub mod Ends
pub mod Determined
pub mod Unspent
