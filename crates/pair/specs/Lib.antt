pub mod Pairs
pub mod Cases
pub mod Folds
pub mod Soundness
