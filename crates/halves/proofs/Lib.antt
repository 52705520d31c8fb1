pub mod View
pub mod Facts
pub mod Room
pub mod Laws
pub mod Kept
pub mod Unique
