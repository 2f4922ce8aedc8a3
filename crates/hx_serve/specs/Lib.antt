pub mod Days
pub mod Faults
pub mod DayServices
pub mod LastLine
pub mod Operator
pub mod Applied
pub mod Publishing
