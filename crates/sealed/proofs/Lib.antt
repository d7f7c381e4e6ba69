pub mod Numbers
pub mod Zeros
pub mod Parts
pub mod Laws
pub mod Changes
