-- What a step and a history do to the market, whatever is quiet: chains grow, and markets stay coherent.
pub mod ChainsGrow
pub mod CoherentMarkets
pub mod CoherentSteps
pub mod EventMoves
pub mod Rejections
pub mod NoExecutions
