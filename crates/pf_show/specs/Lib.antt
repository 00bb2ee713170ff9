pub mod Lines
pub mod Shelves
pub mod Skipping
