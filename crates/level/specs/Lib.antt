pub mod Queue
pub mod Refusal
pub mod Trade
