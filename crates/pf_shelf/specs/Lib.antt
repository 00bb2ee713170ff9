pub mod Shelf
pub mod Change
pub mod Renewed
pub mod Altered
