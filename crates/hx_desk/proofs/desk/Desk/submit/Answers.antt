use Rattle.hx_desk.proofs.Submitting.{submitted}
use Rattle.hx_desk.proofs.desk.Desk.submit.Goals as goal

pub returns-clause-ok : goal.returns-clause-ok
returns-clause-ok c =
    submitted _ _ _ _ _ _ c.stands.ensures.standing c.requires.settled c.in_ok-done.ensures.ok c.seal.ensures c.release.ensures.released c.release.ensures.standing
