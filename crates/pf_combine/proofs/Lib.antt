pub mod Combined
pub mod Examples
pub mod Loops
