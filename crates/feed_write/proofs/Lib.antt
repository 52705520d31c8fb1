pub mod Writings
pub mod RoundTrip
pub mod Unique
