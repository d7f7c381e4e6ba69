pub mod Range
pub mod Command
pub mod Layout
pub mod Message
pub mod Refusal
pub mod Step
pub mod Writing
pub mod Law
