pub mod Circle
pub mod Pairs
pub mod Rank
pub mod Numbers
pub mod Plain
pub mod Arrival
pub mod Unique
