mod Steps
pub mod Written
