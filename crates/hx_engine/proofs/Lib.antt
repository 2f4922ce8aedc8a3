pub mod HeldLaws
pub mod Positions
pub mod PassLaws
pub mod AllBack
pub mod Refusing
pub mod Records
pub mod Pieces
pub mod Applying
