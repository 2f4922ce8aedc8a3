use Rattle.std.proofs.Common.{◌≡◌, ◌∙◌}
use Rattle.indexmap.specs.IndexMap.{insert_entry}
use Rattle.hx_tokens.specs.Rows.{is_name}
use Rattle.hx_tokens.proofs.Indexes.{inserted, on_ok}
use Rattle.hx_tokens.proofs.rows.add.Goals as goal

pub returns : goal.returns
returns c =
    let old = c.args.tokens.now.entries in
    let put = on_ok c.insert.result (c.insert.new.self.entries ≡ insert_entry is_name old c.args.name c.args.used) (c.insert.ensures.succeeds c.requires.room) c.insert.ensures.entries in
    put ∙ inserted c.args.name c.args.used old c.requires.unused
