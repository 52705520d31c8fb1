pub mod Record
pub mod Prints
