pub mod Fours
pub mod Loops
