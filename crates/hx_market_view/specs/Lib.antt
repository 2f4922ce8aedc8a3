pub mod Names
pub mod Trades
pub mod Depths
pub mod Texts
