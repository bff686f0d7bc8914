pub mod Places
pub mod Tables
pub mod Walks
pub mod Soundness
pub mod Folds
pub mod Order
pub mod Weights
