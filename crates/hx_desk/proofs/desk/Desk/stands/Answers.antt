use Rattle.std.proofs.Common.{subst}
use Rattle.hx_desk.specs.Desks.{IsStanding, TellsNoSecret}
use Rattle.hx_desk.proofs.Standing.{desk_stands}
use Rattle.hx_desk.proofs.NoSecrets.{tells_no_secret}
use Rattle.hx_desk.proofs.desk.Desk.stands.Goals as goal

pub returns-clause-standing : goal.returns-clause-standing
returns-clause-standing c =
    let i = c.self.inside in
    subst IsStanding c.self.view_is (desk_stands i.writer i.market i.history.items i.rows i.published_end i.sealed i.reserved i.writing.items i.waiting.items c.self.invariant)

pub returns-clause-secret : goal.returns-clause-secret
returns-clause-secret c = tells_no_secret c.args.self.now (returns-clause-standing c)
