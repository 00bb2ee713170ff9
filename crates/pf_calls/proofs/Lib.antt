pub mod Children
pub mod Reached
pub mod Placed
pub mod Linked
pub mod Copied
pub mod Rounds
pub mod Answered
pub mod Searched
mod Examples
