pub mod FileWords
pub mod Numbered
pub mod Stays
pub mod TableFiles
pub mod Tables
pub mod Without
