pub mod Packed
pub mod Feed
pub mod Ends
pub mod Views
pub mod Rule
pub mod Steps
