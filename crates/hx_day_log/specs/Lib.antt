-- What is reported of the log of a day.
pub mod Events
pub mod Copies
pub mod Mirrored
