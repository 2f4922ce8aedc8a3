pub mod Day
pub mod Ends
pub mod Expiries
pub mod Increasing
pub mod Bounds
pub mod BoundChanges
pub mod BoundLaws
