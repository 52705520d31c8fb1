pub mod Shown
pub mod Program
pub mod Step
pub mod Windows
