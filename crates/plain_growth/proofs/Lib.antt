pub mod Adding
pub mod Expanding
pub mod Growing
pub mod Marking
pub mod Noting
pub mod Scattering
