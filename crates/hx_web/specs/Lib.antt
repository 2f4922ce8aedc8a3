pub mod Handshakes
pub mod Answers
