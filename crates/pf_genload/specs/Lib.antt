pub mod Generated
pub mod Records
