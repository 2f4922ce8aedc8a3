pub mod Growth
pub mod Readings
pub mod Numbers
pub mod Fields
pub mod Pieces
