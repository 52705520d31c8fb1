pub mod Heard
pub mod Lines
pub mod Steps
pub mod Unique
