pub mod Replies
pub mod Printed
