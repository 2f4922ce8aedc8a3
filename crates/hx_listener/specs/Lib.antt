pub mod Addresses
pub mod Backoffs
pub mod Promises
pub mod Sources
