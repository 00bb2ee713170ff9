pub mod Decimals
pub mod Lines
pub mod PathGrammar
pub mod PathReads
pub mod Paths
pub mod TextLines
pub mod Words
