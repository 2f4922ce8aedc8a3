pub mod Lessened
pub mod Reasons
pub mod Feeds
