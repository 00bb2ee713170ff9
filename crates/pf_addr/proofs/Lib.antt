pub mod Cover
pub mod Stretches
pub mod Values
pub mod Texts
pub mod Short
pub mod Prefixes
pub mod OneWord
pub mod Digits
pub mod Groups
pub mod Printed
mod Examples
