pub mod Maps
pub mod Signed
pub mod Counted
pub mod Totals
pub mod Told
pub mod Tables
mod Examples
