pub mod Text
pub mod Views
pub mod Read
