pub mod Follows
pub mod Fields
pub mod Covering
pub mod Tops
pub mod Keeping
pub mod Giving
mod Within
mod Corners
mod Searching
