mod Examples
pub mod Nameless
pub mod OneEnd
pub mod Places
pub mod Something
