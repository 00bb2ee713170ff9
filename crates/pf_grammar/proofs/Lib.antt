pub mod FormLemmas
pub mod Examples
pub mod Keeping
pub mod WordsKept
