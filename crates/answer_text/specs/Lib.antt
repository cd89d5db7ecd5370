pub mod Vertices
pub mod Texts
pub mod Asks
pub mod Modes
pub mod Prints
pub mod Answers
pub mod Laws
