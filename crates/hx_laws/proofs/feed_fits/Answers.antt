use Rattle.hx_laws.proofs.Fits.Runs.{feed_fits}
use Rattle.hx_laws.proofs.feed_fits.Goals as goal

pub returns : goal.returns
returns c = feed_fits
