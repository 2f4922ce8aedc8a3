pub mod Lists
pub mod Rank
pub mod Book
