pub mod Number
pub mod Mask
pub mod Zero
pub mod Sealing
pub mod Part
pub mod Law
pub mod Refusal
