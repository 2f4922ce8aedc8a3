pub mod Beginnings
pub mod Faultless
pub mod FaultlessEvents
pub mod Screens
pub mod Venues
pub mod Passing
pub mod Calls
