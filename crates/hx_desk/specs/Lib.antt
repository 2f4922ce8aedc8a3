pub mod Rows
pub mod Entries
pub mod Faults
pub mod Secrecy
pub mod Desks
pub mod InStep
pub mod Known
