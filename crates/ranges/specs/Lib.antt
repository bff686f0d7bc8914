pub mod Boxes
pub mod Pieces
pub mod Combinations
pub mod Changes
