pub mod Text
pub mod Digits
pub mod Events
pub mod Operators
