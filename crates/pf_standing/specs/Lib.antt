pub mod Standing
pub mod Within
pub mod Appearing
pub mod Numbers
