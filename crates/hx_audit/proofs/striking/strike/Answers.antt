use Rattle.std.proofs.Common.{ap, sym, subst, List, ◌∙◌}
use Rattle.std.proofs.lemmas.Result.{err_from_is_err_and}
use Rattle.hx_members.specs.Setups.{Setup}
use Rattle.hx_rules.specs.declared.event.Event.{Event}
use Rattle.hx_market.specs.Markets.{Market}
use Rattle.hx_market.specs.Steps.{run}
use Rattle.hx_market.specs.QuietChains.{quiet_of_one, strike, strike_one}
use Rattle.hx_audit.specs.declared.auditor.Whose.{Whose}
use Rattle.hx_audit.specs.Auditing.{choice_of}
use Rattle.hx_audit.specs.Recording.{AreRecorded}
use Rattle.hx_audit.proofs.Strangers.{nothing_struck}
use Rattle.hx_audit.proofs.StruckRecorded.{struck_recorded}
use Rattle.hx_audit.proofs.striking.strike.Goals as goal

pub returns-in_err-keep-clause-refused : goal.returns-in_err-keep-clause-refused
returns-in_err-keep-clause-refused c =
    let p = err_from_is_err_and c.from_residual-in_err-keep.result c.from_residual-in_err-keep.ensures.1 in
    rw (p.1, p.2) tt

pub returns-clause-recorded : goal.returns-clause-recorded
returns-clause-recorded c =
    let a = c.in_ok-auditor.ensures in
    subst (λ (s : Setup). AreRecorded s c.args.events.now) a.setup a.taken.recorded

pub returns-clause-struck : goal.returns-clause-struck
unfolding strike_one
returns-clause-struck c =
    let a = c.in_ok-auditor.ensures in
    let events = c.args.events.now in
    c.in_ok-keep.ensures
    ∙ ap (λ (w : Whose). strike (choice_of w c.in_ok-auditor.auditor.market) events) a.whose
    ∙ ap (λ (k : Market). strike (quiet_of_one c.args.member k) events) (a.taken.market_is ∙ ap (λ (s : Setup). run s events) a.setup)

pub returns-clause-again : goal.returns-clause-again
returns-clause-again c =
    let a = c.in_ok-auditor.auditor in
    subst (λ (retained : List Event). AreRecorded c.args.setup.now retained) (sym c.in_ok-keep.ensures)
    (struck_recorded c.args.setup.now (choice_of a.whose a.market) c.args.events.now (returns-clause-recorded c))

pub returns-clause-stranger : goal.returns-clause-stranger
returns-clause-stranger c h =
    returns-clause-struck c ∙ nothing_struck c.args.setup.now c.args.member c.args.events.now (returns-clause-recorded c) h
