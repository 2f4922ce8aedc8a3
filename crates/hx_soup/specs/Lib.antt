pub mod Kinds
pub mod Packets
pub mod Framers
pub mod Steps
pub mod Logins
