pub mod Command
pub mod Grammar
pub mod Laying
pub mod Options
pub mod Word
