pub mod Marks
pub mod Names
pub mod Words
pub mod Events
pub mod Times
pub mod Schedules
pub mod Answers
