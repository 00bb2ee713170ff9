pub mod Anchors
pub mod Answers
pub mod Fit
pub mod Load
pub mod Paths
pub mod Statements
