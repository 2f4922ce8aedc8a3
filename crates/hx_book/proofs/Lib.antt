pub mod Lists
pub mod Rank
pub mod Orders
pub mod Indices
pub mod Keys
pub mod Next
pub mod Qualifying
