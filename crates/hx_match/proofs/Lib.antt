pub mod Steps
pub mod OnePass
pub mod First
pub mod Entries
pub mod Carried
pub mod Unmet
pub mod AnyShares
