pub mod Bits
pub mod Node
pub mod Trie
pub mod Table
pub mod Kept
pub mod Pushed
pub mod TableLaws
