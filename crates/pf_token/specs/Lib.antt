pub mod Bytes
pub mod Cells
pub mod Coming
pub mod Kinds
pub mod Macros
pub mod Pieces
pub mod Reading
