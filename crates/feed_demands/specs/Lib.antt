pub mod Records
pub mod Course
pub mod Prints
