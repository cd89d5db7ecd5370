pub mod Acts
pub mod Stretches
pub mod Searching
pub mod Entering
pub mod Drawn
pub mod Calls
