pub mod Bools
pub mod Leading
pub mod Covers
pub mod Grow
pub mod Grown
pub mod Ways
pub mod Signs
pub mod Same
pub mod Members
pub mod Narrow
pub mod Changes
pub mod Narrowest
mod Examples
