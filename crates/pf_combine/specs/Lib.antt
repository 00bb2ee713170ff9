pub mod Members
pub mod Combinations
pub mod Walk
pub mod Antispoof
