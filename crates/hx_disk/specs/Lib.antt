pub mod Device
pub mod Calls
