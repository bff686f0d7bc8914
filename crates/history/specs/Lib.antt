pub mod Events
pub mod Entries
pub mod Judging
pub mod Stated
pub mod Laws
