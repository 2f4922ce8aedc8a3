pub mod Recovery
pub mod Served
