pub mod SetupLaws
pub mod Words
pub mod Spelling
pub mod Growing
pub mod WholeSetups
pub mod SetupLines
pub mod BadLines
pub mod TextLaws
