pub mod Step
pub mod Word
pub mod Chunk
pub mod Burst
