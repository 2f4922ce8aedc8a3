pub mod Staging
pub mod RowLaws
pub mod Growth
pub mod Standing
pub mod Submitting
pub mod NoSecrets
pub mod Answered
