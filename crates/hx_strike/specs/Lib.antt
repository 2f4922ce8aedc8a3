pub mod Taking
pub mod Striking
