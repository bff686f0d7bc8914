pub mod Expressions
pub mod Reading
pub mod Laws
pub mod Steps
pub mod Questions
pub mod Texts
pub mod Cases
pub mod Fronts
