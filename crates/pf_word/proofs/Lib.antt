pub mod Adding
pub mod Examples
pub mod OneMeaning
pub mod Readings
pub mod Something
