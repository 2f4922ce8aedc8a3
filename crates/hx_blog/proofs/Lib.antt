pub mod Prefixes
pub mod Feeds
pub mod Packing
pub mod Moves
pub mod WriterPass
pub mod ReaderPass
pub mod SeatsPass
pub mod Settled
