use Rattle.hx_replay.proofs.Few.{started}
use Rattle.hx_replay.proofs.run.Run.new.Goals as goal

pub returns : goal.returns
returns g c =
    started c.args.setup c.in_ok-new.field-0.setup c.in_ok-new.field-0.market c.in_ok-no_replies.field-0.items c.in_ok-new.ensures.setup c.in_ok-new.ensures.market
    c.in_ok-no_replies.ensures
