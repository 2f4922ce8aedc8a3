pub mod QuietChains
pub mod FeedBook
pub mod Laws
pub mod Recorded
pub mod FeedFits
pub mod Partitions
