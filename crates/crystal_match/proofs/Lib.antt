mod Worked
pub mod PairLists
pub mod Numbers
pub mod Relabels
pub mod Back
pub mod Stepping
pub mod Following
pub mod Answering
pub mod Bijecting
pub mod OneVerdict
