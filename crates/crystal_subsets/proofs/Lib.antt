pub mod RankLists
pub mod BesideTests
pub mod TensorTops
pub mod TopLists
pub mod Lowering
pub mod MarkedSubsets
