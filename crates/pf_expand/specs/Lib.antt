pub mod Lists
pub mod Readings
pub mod Faults
pub mod Rules
pub mod Expansion
pub mod Written
