use Rattle.std.proofs.Common.{List, ap, sym, ◌∙◌}
use Rattle.std.specs.Map.{set_value}
use Rattle.indexmap.specs.IndexMap.{insert_entry}
use Rattle.hx_units.specs.Names.{is_token}
use Rattle.hx_units.specs.declared.names.Token.{Token}
use Rattle.hx_audit.proofs.Grouping.{put_known, put_new}
use Rattle.hx_audit.proofs.listing.put.Goals as goal

pub returns-in-Some : goal.returns-in-Some
returns-in-Some c =
    (c.get_mut.follows.holds c.push.new.self).0
    ∙ ap (λ (w : List Token). set_value (is_token c.args.entered) c.args.chains.now.entries w) c.in_ok-push.ensures
    ∙ put_known c.args.chains.now.entries c.args.entered c.args.token c.in-Some.tokens.now (sym c.in-Some.ensures.value)

pub returns : goal.returns
returns c =
    c.in_ok-insert.ensures.entries
    ∙ (λ j. insert_entry is_token ((c.get_mut.follows.holds-at-none j).entries) c.args.entered (c.in_ok-of.ensures j))
    ∙ put_new c.args.chains.now.entries c.args.entered c.args.token (sym c.in_default.ensures.value)
