use Rattle.std.proofs.Common.{◌≡◌, true, ap, sym, subst, List, ◌∙◌}
use Rattle.std.specs.List.{AllByRecursion}
use Rattle.std.proofs.lemmas.Result.{err_from_is_err_and}
use Rattle.hx_units.specs.declared.names.Token.{Token}
use Rattle.hx_members.specs.Setups.{Setup}
use Rattle.hx_rules.specs.declared.event.Event.{Event}
use Rattle.hx_market.specs.Markets.{Market}
use Rattle.hx_market.specs.Steps.{run}
use Rattle.hx_market.specs.QuietChains.{is_quiet}
use Rattle.hx_laws.specs.Laws.{chained_with}
use Rattle.hx_audit.specs.Listing.{uses_of}
use Rattle.hx_audit.specs.Finding.{in_chains}
use Rattle.hx_audit.specs.Recording.{AreRecorded}
use Rattle.hx_audit.proofs.Led.{facts_tell}
use Rattle.hx_audit.proofs.Goes.{led_run}
use Rattle.hx_audit.proofs.Choosing.{same_chains, strikes_same}
use Rattle.hx_audit.proofs.StruckRecorded.{struck_recorded}
use Rattle.hx_audit.proofs.chosen.strike_chains.Goals as goal

pub choose-requires : goal.choose-requires
choose-requires c =
    rw (c.in_ok-take_all.ensures.market, c.in_ok-market.ensures.setup) (facts_tell _ (led_run c.args.setup.now c.args.events.now))

pub returns-in_err-keep-clause-refused : goal.returns-in_err-keep-clause-refused
returns-in_err-keep-clause-refused c =
    let p = err_from_is_err_and c.from_residual-in_err-keep.result c.from_residual-in_err-keep.ensures.1 in
    rw (p.1, p.2) tt

pub returns-clause-quiet : goal.returns-clause-quiet
returns-clause-quiet c =
    let after = c.in_ok-take_all.ensures.market ∙ ap (λ (s : Setup). run s c.args.events.now) c.in_ok-market.ensures.setup in
    subst (λ (a : Market). AllByRecursion (λ (t : Token). is_quiet a c.args.member t ≡ true) c.args.tokens.now) after c.in_ok-chosen.ensures.quiet

pub returns-clause-struck : goal.returns-clause-struck
returns-clause-struck c =
    let s = c.args.setup.now in
    let events = c.args.events.now in
    let uses = c.in_ok-take_all.ensures.uses ∙ ap (λ (s : Setup). uses_of (run s events).tokens c.args.member) c.in_ok-market.ensures.setup in
    c.in_ok-keep.ensures
    ∙ strikes_same (in_chains c.args.member c.take_all.new.listing.uses.entries c.in_ok-chosen.chosen.entries) (chained_with c.args.member c.args.tokens.now (run s events))
    (same_chains (run s events) c.args.member c.take_all.new.listing.uses.entries c.in_ok-chosen.chosen.entries c.args.tokens.now uses c.in_ok-chosen.ensures.chosen) events

pub returns-clause-again : goal.returns-clause-again
returns-clause-again c =
    let recorded = subst (λ (s : Setup). AreRecorded s c.args.events.now) c.in_ok-market.ensures.setup c.in_ok-take_all.ensures.recorded in
    subst (λ (retained : List Event). AreRecorded c.args.setup.now retained) (sym c.in_ok-keep.ensures)
    (struck_recorded c.args.setup.now (in_chains c.args.member c.take_all.new.listing.uses.entries c.in_ok-chosen.chosen.entries) c.args.events.now recorded)
