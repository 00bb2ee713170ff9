mod Equals
mod Examples
mod Keywords
mod Laid
mod Lines
mod Records
mod Spelled
mod Spoken
