pub mod InboundKinds
pub mod Inbound
pub mod OutboundKinds
pub mod Outbound
