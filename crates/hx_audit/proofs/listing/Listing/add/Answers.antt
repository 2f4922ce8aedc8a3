use Rattle.std.proofs.Common.{◌≡◌, List, ◌++◌, ◌∷◌, [], ap, sym, ◌∙◌}
use Rattle.std.proofs.lemmas.Result.{on_ok_weaker}
use Rattle.indexmap.proofs.CallerLemmas.{insert_entry-new}
use Rattle.hx_units.specs.Names.{is_token}
use Rattle.hx_units.specs.declared.names.Token.{Token}
use Rattle.hx_audit.specs.Listing.{use_of, grouped}
use Rattle.hx_audit.specs.Finding.{with_use}
use Rattle.hx_audit.proofs.Grouping.{grouped_push}
use Rattle.hx_audit.proofs.listing.Listing.add.Goals as goal

pub returns-clause-uses : goal.returns-clause-uses
returns-clause-uses c =
    on_ok_weaker c.put.result
    (λ _. c.in_ok-insert.ensures.entries ∙ insert_entry-new is_token c.args.self.now.uses c.args.token c.args.entered c.requires.unlisted) c.put.ensures

pub returns-clause-grouped : goal.returns-clause-grouped
returns-clause-grouped c =
    let us = c.args.self.now.uses.entries in
    let new : c.insert.new.self.entries ≡ us ++ use_of c.args.token c.args.entered ∷ [] =
    c.in_ok-insert.ensures.entries ∙ insert_entry-new is_token c.args.self.now.uses c.args.token c.args.entered c.requires.unlisted in
    on_ok_weaker c.put.result
    (λ put. put ∙ ap (λ (gs : List (Token × List Token)). with_use gs c.args.entered c.args.token) c.requires.grouped
    ∙ sym (grouped_push us c.args.token c.args.entered) ∙ ap grouped (sym new)) c.put.ensures
