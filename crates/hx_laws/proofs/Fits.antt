-- That the feed fits its fields.
pub mod Orders
pub mod EventOutput
pub mod Entering
pub mod Events
pub mod Runs
