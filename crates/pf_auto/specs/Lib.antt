pub mod Ends
pub mod Merged
pub mod Beside
pub mod Groups
pub mod Putting
pub mod Standing
