pub mod History
pub mod Takes
pub mod Stream
pub mod Demands
pub mod Bench
