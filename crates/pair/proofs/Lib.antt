pub mod Revisings
pub mod Calls
