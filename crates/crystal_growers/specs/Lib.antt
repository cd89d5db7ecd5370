pub mod GrowthEvents
pub mod Expansion
pub mod Drawing
pub mod Slips
pub mod Grower
pub mod Gathering
pub mod Growth
