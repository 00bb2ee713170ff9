pub mod Blocks
pub mod BlockSteps
pub mod Runs
pub mod Cost
pub mod Sorting
pub mod Order
pub mod RankSteps
