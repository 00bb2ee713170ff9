pub mod Texts
pub mod Kinds
pub mod Refusals
pub mod Replies
