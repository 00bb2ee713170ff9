pub mod AnyWalks
pub mod Decided
pub mod Decisions
pub mod Effects
pub mod FieldLemmas
pub mod Founds
pub mod Translations
pub mod Walks
