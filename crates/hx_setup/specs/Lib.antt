pub mod Setups
pub mod SetupText
pub mod Reading
