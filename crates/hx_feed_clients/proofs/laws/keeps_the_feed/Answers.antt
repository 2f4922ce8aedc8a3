use Rattle.hx_feed_clients.proofs.Keeping as keeping
use Rattle.hx_feed_clients.proofs.laws.keeps_the_feed.Goals as goal

pub returns : goal.returns
returns c = keeping.keeps_the_feed
