pub mod Feed
pub mod Messages
pub mod Shown
