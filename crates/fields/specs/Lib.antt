pub mod Numeral
pub mod Kind
pub mod Field
pub mod Row
pub mod Reader
pub mod Found
pub mod Law
