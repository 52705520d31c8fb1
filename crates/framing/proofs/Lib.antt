pub mod Moves
pub mod Parts
pub mod Steps
pub mod Text
pub mod Windows
pub mod Unique
