pub mod Bare
pub mod ChildFits
pub mod Children
pub mod Fits
pub mod Listed
pub mod Loops
pub mod Nodes
pub mod Rewritten
