pub mod Fronts
pub mod Stakes
pub mod Steps
pub mod Splitting
pub mod Joining
pub mod Opening
