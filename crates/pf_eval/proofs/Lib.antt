pub mod Lists
pub mod Standing
pub mod Bounds
pub mod Skipping
pub mod Chained
pub mod Behind
pub mod Arms
pub mod Ends
pub mod Named
pub mod Answering
pub mod Deeds
pub mod Fewer
mod Examples
