pub mod History
pub mod Quiet
pub mod FeedBook
pub mod Fits
pub mod Accepted
