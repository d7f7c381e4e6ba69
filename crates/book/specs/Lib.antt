pub mod Place
pub mod Step
pub mod Market
pub mod Put
