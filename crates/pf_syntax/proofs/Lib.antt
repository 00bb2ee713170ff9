pub mod Repeating
pub mod Refusals
