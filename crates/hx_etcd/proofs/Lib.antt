pub mod Joins
pub mod Holding
pub mod Heads
pub mod Pieces
pub mod Streams
pub mod Calls
