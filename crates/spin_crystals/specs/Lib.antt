pub mod Signs
pub mod SpinCrystals
pub mod Turns
