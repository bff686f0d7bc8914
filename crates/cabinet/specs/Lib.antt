pub mod Memory
pub mod Calls
pub mod Standing
pub mod Sessions
pub mod Inner
