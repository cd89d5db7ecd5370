pub mod Jobs
pub mod Faults
pub mod Rules
pub mod Drafts
pub mod DraftFields
pub mod Judge
pub mod Outcomes
