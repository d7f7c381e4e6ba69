pub mod Options
pub mod Numerals
pub mod Cuts
mod Fronts
pub mod Rows
