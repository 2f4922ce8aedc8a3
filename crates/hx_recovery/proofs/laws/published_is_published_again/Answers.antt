use Rattle.hx_recovery.proofs.Recovering.{published_again_at_once, published_is_published_again}
use Rattle.hx_recovery.proofs.laws.published_is_published_again.Goals as goal

pub returns : goal.returns
returns c = record { at_once = published_again_at_once; later = published_is_published_again }
