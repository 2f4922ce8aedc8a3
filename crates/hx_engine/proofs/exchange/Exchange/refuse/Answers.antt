use Rattle.hx_engine.proofs.Refusing.{still_outright}
use Rattle.hx_engine.proofs.exchange.Exchange.refuse.Goals as goal

pub returns-clause-outright : goal.returns-clause-outright
returns-clause-outright g c =
    still_outright g.V.Venue.setup c.args.event.now c.look-error.result c.answer.result c.answer.ensures.bad_time c.answer.ensures.no_member c.look-error.ensures
