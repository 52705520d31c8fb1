pub mod Loop
pub mod Read
pub mod Unique
