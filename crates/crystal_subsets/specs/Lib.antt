pub mod DemazureSubsets
pub mod ProductTops
pub mod Marks
