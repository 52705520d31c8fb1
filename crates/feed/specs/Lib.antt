pub mod Number
pub mod Kind
pub mod Record
pub mod Head
pub mod Reading
pub mod Text
