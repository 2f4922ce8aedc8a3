pub mod Since
pub mod Known
pub mod Outcomes
pub mod Sent
pub mod Paging
pub mod Trims
