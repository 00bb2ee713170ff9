mod Examples
pub mod GapWords
pub mod Gathering
pub mod Judging
pub mod OneTable
pub mod Settling
pub mod Something
pub mod Staying
pub mod TableContents
