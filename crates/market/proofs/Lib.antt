-- a policy's split
pub mod Splits
-- queues and levels
pub mod Fills
pub mod Levels
pub mod Joins
pub mod Leaves
pub mod Queues
-- an incoming order, both sides, and the outcomes of a command
pub mod Meets
pub mod Sides
pub mod Cases
pub mod Orders
-- the laws
pub mod Shapes
pub mod Tallies
pub mod Balances
pub mod Reasons
pub mod Trading
pub mod Placed
pub mod Fairness
pub mod Sharing
pub mod Turns
pub mod OneOrder
pub mod Told
pub mod Counts
