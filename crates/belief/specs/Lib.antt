pub mod Sheets
pub mod Meaning
pub mod Calls
pub mod Joined
pub mod Spans
