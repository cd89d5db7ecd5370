pub mod Layout
pub mod Rule
pub mod Told
pub mod Parting
pub mod Values
pub mod Fronts
