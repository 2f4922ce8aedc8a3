use Rattle.std.proofs.Common.{List, ℕ, ◌∙◌, ◌++◌, length, ap, sym, subst}
use Rattle.std.specs.List.{AllByRecursion}
use Rattle.hx_journal.specs.Records.{IsRecord}
use Rattle.hx_blog.specs.Feed.{Entries, feed}
use Rattle.hx_desk.specs.declared.entry.Entry.{Entry}
use Rattle.hx_desk.specs.Known.{history_of}
use Rattle.hx_engine.proofs.HeldLaws.{feed_unspoken, all_records}
use Rattle.hx_engine.proofs.journal_writer.JournalWriter.make_durable.Goals as goal
use Rattle.hx_tape_lines.specs.Text.{record_of}
use Rattle.hx_engine.proofs.Records.{recorded}

pub publish_first-requires-clause-count : goal.publish_first-requires-clause-count
publish_first-requires-clause-count g c =
    sym (ap (λ (k : Entries Entry). length (feed k)) c.requires.silent ∙ ap length (feed_unspoken (history_of g.N.NamesEntries.entries)))

pub publish_first-requires-clause-named : goal.publish_first-requires-clause-named
publish_first-requires-clause-named g c =
    ap (λ (k : Entries Entry). feed k ++ g.N.NamesEntries.left) c.requires.silent ∙ ap (λ l. l ++ g.N.NamesEntries.left) (feed_unspoken (history_of g.N.NamesEntries.entries)) ∙ c.requires.left ∙ sym c.args.self.unstaged

pub write_down-requires-clause-records : goal.write_down-requires-clause-records
write_down-requires-clause-records g c =
    subst (λ (texts : List (List ℕ)). AllByRecursion IsRecord texts) (sym c.requires.records)
    (all_records record_of recorded (history_of g.N.NamesEntries.entries))
