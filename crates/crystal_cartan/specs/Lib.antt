pub mod Types
pub mod Weights
pub mod Crystals
pub mod Padded
pub mod Fields
pub mod Seminormal
