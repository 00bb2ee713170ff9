pub mod Blank
pub mod Kinds
pub mod Log
pub mod Tests
pub mod Flags
pub mod States
pub mod Settings
