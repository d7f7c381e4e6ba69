pub mod Rows
pub mod Wrote
pub mod Queues
