pub mod Addresses
pub mod Facts
pub mod Kept
pub mod Line
pub mod Meaning
pub mod Queries
pub mod Reading
pub mod Rows
