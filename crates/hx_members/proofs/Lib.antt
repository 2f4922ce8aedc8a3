pub use Rattle.hx_tokens.proofs.ChainLaws
pub use Rattle.hx_tokens.proofs.TokenLaws
pub use Rattle.hx_setup.proofs.BadLines
