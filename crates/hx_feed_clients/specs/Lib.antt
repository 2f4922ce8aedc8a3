-- What a relay retains of a feed.
pub mod Relays
