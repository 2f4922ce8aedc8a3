pub mod Taken
pub mod Leaving
