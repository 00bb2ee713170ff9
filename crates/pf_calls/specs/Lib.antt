pub mod Graph
pub mod GraphLaws
pub mod Calls
pub mod Numbered
pub mod Links
pub mod Search
pub mod CallLaws
