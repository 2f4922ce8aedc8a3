use Rattle.std.proofs.Common.{sym, subst}
use Rattle.hx_audit.specs.declared.fault.StrikeError.{StrikeError}
use Rattle.hx_audit.specs.Recording.{Explains}
use Rattle.hx_audit.proofs.Taken.{explained_next}
use Rattle.hx_audit.proofs.auditor.Auditor.of.Goals as goal

pub returns-in-Err-clause-refused : goal.returns-in-Err-clause-refused
returns-in-Err-clause-refused c =
    let l = c.loop-index in
    rw (c.error_at.ensures, c.in-Err.ensures.refused)
    (explained_next l.auditor c.args.setup.now c.args.events.now l.index c.index-events-index.result l.invariant.setup l.invariant.taken c.loop-index-test.true c.index-events-index.is)
