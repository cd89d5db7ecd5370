-- The modes, a file for each: what a mode answers, case by case, and that the answer is determined.
pub mod Grow
pub mod Sample
pub mod Census
pub mod Match
pub mod Wide
