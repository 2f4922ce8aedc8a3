use Rattle.std.proofs.Common.{sym, ◌∙◌, refl, inr}
use Rattle.hx_audit.proofs.Choosing.{quiet_more, chosen_more, first_loud}
use Rattle.hx_audit.proofs.chosen.choose.Goals as goal

pub returns-then-not-is_quiet-clause-refused : goal.returns-then-not-is_quiet-clause-refused
returns-then-not-is_quiet-clause-refused c =
    let l = c.loop-token in
    inr (_, refl, first_loud c.args.market.now.market c.args.member c.args.tokens.now l.token-index _ c.loop-token-test.true l.invariant.quiet (sym c.is_quiet.ensures ∙ c.if-not-is_quiet.true))

pub loop-token-preserved : goal.loop-token-preserved
loop-token-preserved c =
    let l = c.loop-token in
    record {
      quiet = quiet_more c.args.market.now.market c.args.member c.args.tokens.now l.token-index _ c.loop-token-test.true (sym c.is_quiet.ensures ∙ c.if-not-is_quiet.false) l.invariant.quiet;
      chosen = chosen_more c.args.listing.now.uses.entries l.chosen.entries c.insert.new.self.entries c.args.tokens.now l.token-index _ c.entered.result c.loop-token-test.true c.entered.ensures c.in_ok-insert.ensures.updates.0 l.invariant.chosen;
    }
