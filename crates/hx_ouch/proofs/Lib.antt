pub mod InboundLaws
pub mod OutboundLaws
