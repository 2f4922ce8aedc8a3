pub mod Conducting
pub mod Histories
pub mod Passes
pub mod Applying
