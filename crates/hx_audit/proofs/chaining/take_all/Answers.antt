use Rattle.std.proofs.Common.{refl, ap, sym, ◌∙◌}
use Rattle.std.proofs.lemmas.Result.{err_from_is_err_and}
use Rattle.hx_audit.specs.Listing.{grouped}
use Rattle.hx_audit.proofs.Recorded.{took_none, took_more, explained_or}
use Rattle.hx_audit.proofs.Rooted.{none_listed}
use Rattle.hx_audit.proofs.chaining.take_all.Goals as goal

pub loop-index-init : goal.loop-index-init
loop-index-init c =
    let s = c.args.market.now.setup in
    record {
      setup = refl;
      took = took_none s c.args.events.now c.args.market.now.market c.requires.opening;
      listed = c.requires.none ∙ sym (none_listed s c.args.market.now.market c.args.member c.requires.opening);
      grouped = c.requires.grouped ∙ sym (ap grouped c.requires.none);
    }

pub returns-in_err-take_and_list-clause-refused : goal.returns-in_err-take_and_list-clause-refused
returns-in_err-take_and_list-clause-refused c =
    let s = c.args.market.now.setup in
    let p = err_from_is_err_and c.from_residual.result c.from_residual.ensures.1 in
    rw (p.1, p.2)
    (explained_or s c.args.events.now c.loop-index.index c.loop-index.market.market c.index-events-index.result _ c.loop-index-test.true c.index-events-index.is c.loop-index.invariant.took
    (rw (← c.loop-index.invariant.setup) c.in_err-take_and_list.ensures.refused))

pub loop-index-preserved : goal.loop-index-preserved
loop-index-preserved c =
    let e = c.loop-index.invariant.setup in
    let r = c.in_ok-take_and_list.ensures in
    record {
      setup = r.setup ∙ e;
      took = took_more c.args.market.now.setup c.args.events.now c.loop-index.index c.loop-index.market.market c.take_and_list.new.market.market c.index-events-index.result c.loop-index-test.true c.index-events-index.is
          c.loop-index.invariant.took (rw (← e) r.passes) (rw (← e) r.market);
      listed = r.listed;
      grouped = r.grouped;
    }
