pub mod Anchors
pub mod Drafts
pub mod Ends
pub mod Filled
pub mod Numbered
