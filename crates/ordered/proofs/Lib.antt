pub mod Orders
pub mod Between
pub mod Found
pub mod Ascends
pub mod Lookups
pub mod Ends
pub mod Insertions
pub mod Values
