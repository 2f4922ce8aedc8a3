pub mod Chains
pub mod Rows
pub mod Tokens
pub mod Packed
pub mod Seeds
