mod Checks
mod Shapes
mod Values
mod Lengths
mod Forms
mod Writes
mod Bodies
pub mod Whole
