pub mod Passes
pub mod Lifts
pub mod Places
pub mod Acting
pub mod ArrowOrder
