pub mod Laws
pub mod Onward
pub mod Rows
pub mod Facts
pub mod Answers
pub mod Unique
pub mod Due
