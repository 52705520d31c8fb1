pub mod Rule
pub mod Circle
pub mod Pair
pub mod Numbers
pub mod Plain
pub mod Side
