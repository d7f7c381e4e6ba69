pub mod Rank
pub mod Row
pub mod Shape
pub mod Queues
pub mod Levels
pub mod Refusal
pub mod Meeting
