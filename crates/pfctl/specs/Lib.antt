pub mod Doing
pub mod Generating
pub mod Input
pub mod Lines
pub mod Program
