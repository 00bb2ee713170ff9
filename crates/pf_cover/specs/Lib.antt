pub mod Cover
pub mod Kept
pub mod Corner
pub mod Search
