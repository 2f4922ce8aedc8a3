-- What a relay retains.
pub mod Keeping
