pub mod Tally
pub mod Sort
pub mod Judge
pub mod Check
pub mod Store
pub mod Put
