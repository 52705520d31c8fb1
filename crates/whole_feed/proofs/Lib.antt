pub mod Fitted
pub mod Unique
