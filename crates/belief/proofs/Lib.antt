pub mod Sums
pub mod Products
pub mod Replies
pub mod Revisings
pub mod Spanned
pub mod Sheets
