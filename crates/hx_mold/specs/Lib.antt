pub mod Packets
pub mod Counting
pub mod Reading
pub mod Fronts
pub mod Filling
