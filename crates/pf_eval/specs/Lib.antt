pub mod Rulesets
pub mod World
pub mod Answers
pub mod Chain
pub mod Steps
pub mod Longest
pub mod Rows
