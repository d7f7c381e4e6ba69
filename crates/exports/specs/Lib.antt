pub mod Code
pub mod Message
