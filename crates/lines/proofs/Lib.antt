pub mod Decimals
pub mod Lines
pub mod Unique
