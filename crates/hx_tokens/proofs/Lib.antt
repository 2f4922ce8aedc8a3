pub mod ChainLaws
pub mod TokenLaws
pub mod PushLaws
pub mod UpdateLaws
pub mod Packing
pub mod Indexes
