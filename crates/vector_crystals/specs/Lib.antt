pub mod Letters
pub mod VectorCrystals
