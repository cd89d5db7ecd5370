pub mod Runs
pub mod Serving
pub mod Seating
pub mod Beside
pub mod Hearing
pub mod Ending
