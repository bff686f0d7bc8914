pub mod Text
pub mod Pairs
