pub mod Order
pub mod Row
pub mod Place
pub mod Refusal
pub mod Kept
pub mod Lent
pub mod Law
