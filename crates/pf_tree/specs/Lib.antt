pub mod Falls
pub mod Grown
pub mod GrownLaws
pub mod Meaning
pub mod Order
pub mod Paths
