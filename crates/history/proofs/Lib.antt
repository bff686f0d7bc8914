pub mod Checks
pub mod Telling
pub mod Restorers
pub mod Entries
pub mod Main
