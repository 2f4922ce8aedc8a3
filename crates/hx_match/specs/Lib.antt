pub mod Matching
pub mod Executing
pub mod Rules
