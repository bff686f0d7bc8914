pub mod Holding
pub mod Takers
pub mod Laws
pub mod Meanings
pub mod Masks
pub mod Returns
