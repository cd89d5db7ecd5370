pub mod Acts
pub mod Looking
pub mod Deciding
pub mod Trying
pub mod Searching
