pub mod Serving
pub mod Seating
pub mod Heard
pub mod Entering
pub mod Endings
pub mod Telling
