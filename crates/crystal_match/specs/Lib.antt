pub mod Relabelling
pub mod Listings
pub mod Telling
pub mod Matching
pub mod Search
