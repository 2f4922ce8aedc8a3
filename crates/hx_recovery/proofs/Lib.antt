pub mod NoBadLine
pub mod OutputLines
pub mod Reading
pub mod Records
pub mod Recovering
pub mod Replaying
pub mod Restored
pub mod Telling
