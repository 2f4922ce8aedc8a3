use Rattle.std.proofs.Common.{◌++◌, length, ap, sym, ◌∙◌}
use Rattle.hx_blog.specs.Feed.{Entries, feed}
use Rattle.hx_desk.specs.declared.entry.Entry.{Entry}
use Rattle.hx_engine.proofs.HeldLaws.{feed_unspoken}
use Rattle.hx_engine.proofs.journal_writer.write_before.Goals as goal

pub publish_first-requires-clause-count : goal.publish_first-requires-clause-count
publish_first-requires-clause-count g c = sym (ap (λ (k : Entries Entry). length (feed k)) c.requires.entries ∙ ap length (feed_unspoken c.args.desk.now.history))

pub publish_first-requires-clause-named : goal.publish_first-requires-clause-named
publish_first-requires-clause-named g c =
    ap (λ (k : Entries Entry). feed k ++ g.N.NamesEntries.left) c.requires.entries ∙ ap (λ l. l ++ g.N.NamesEntries.left) (feed_unspoken c.args.desk.now.history) ∙ c.requires.left ∙ sym c.requires.empty.1
