pub mod Printed
pub mod Step
