pub mod Semistandard
pub mod Components
pub mod Listing
pub mod Outcomes
pub mod Laws
