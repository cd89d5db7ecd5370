pub mod Tables
pub mod Rules
pub mod Digits
pub mod Seminormal
mod Worked
