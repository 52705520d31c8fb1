pub mod Interval
