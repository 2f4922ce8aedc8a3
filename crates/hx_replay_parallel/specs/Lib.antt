pub mod Ahead
pub mod Turns
