pub mod Recording
pub mod Auditing
pub mod Facts
pub mod Listing
pub mod Finding
