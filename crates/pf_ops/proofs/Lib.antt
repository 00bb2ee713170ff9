mod Subsets
mod Operators
pub mod Letters
