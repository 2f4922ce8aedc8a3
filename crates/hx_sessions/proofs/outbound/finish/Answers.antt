use Rattle.hx_sessions.proofs.Going.{still_there}
use Rattle.hx_sessions.proofs.outbound.finish.Goals as goal
use Rattle.hx_units.proofs.Prefixes.{prefix_trans}

pub deliver-requires-clause-next : goal.deliver-requires-clause-next
deliver-requires-clause-next g c = (c.requires.next.0, still_there g.V.Venue.setup c.args.member c.args.outbox.delivery.next c.args.outbox.reader.known c.learn.new.self.known c.learn.ensures.known c.requires.next.1)

pub returns-clause-published_end : goal.returns-clause-published_end
returns-clause-published_end g c = prefix_trans c.args.receipt.known c.learn.new.self.known c.deliver.result.0.reader.known c.learn.ensures.received c.deliver.ensures.known
