pub mod Hours
pub mod Rows
pub mod Metrics
pub mod Answers
