pub mod Numbers
pub mod Heads
pub mod Fields
pub mod Readings
pub mod Locality
pub mod WriteRead
pub mod ReadWrite
pub mod Unique
