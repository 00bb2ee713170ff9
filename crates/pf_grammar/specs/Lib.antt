pub mod Heads
pub mod Options
pub mod Statements
pub mod Late
pub mod Forms
pub mod Bytes
