pub mod Tested
pub mod Rows
pub mod Survival
