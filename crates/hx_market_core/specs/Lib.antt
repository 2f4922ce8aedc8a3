pub mod OrderKeys
pub mod Effects
pub mod MarketModel
pub mod Expiries
pub mod Prepared
pub mod Room
pub mod Arrivals
