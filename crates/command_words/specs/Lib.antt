pub mod Fault
pub mod Number
pub mod Line
pub mod Judge
