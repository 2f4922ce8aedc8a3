pub mod Journals
pub mod Nowhere
pub mod Passes
pub mod Exchanges
pub mod Finish
pub mod Opening
pub mod Applied
pub mod Pieces
