pub mod TokenText
pub mod Written
pub mod Calls
pub mod ReadBack
pub mod SetBack
