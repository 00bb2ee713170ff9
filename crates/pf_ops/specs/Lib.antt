pub mod Numbers
pub mod Operator
pub mod Words
pub mod WordTable
pub mod Equal
