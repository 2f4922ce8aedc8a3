use Rattle.std.proofs.Common.{length}
use Rattle.hx_engine.proofs.HeldLaws.{silent_rest}
use Rattle.hx_engine.proofs.batch_write.make_all_durable.Goals as goal

pub make_durable-requires-clause-silent : goal.make_durable-requires-clause-silent
make_durable-requires-clause-silent g c = silent_rest (length c.args.journal_writer.writer.published) c.args.knows.now.known g.N.NamesEntries.entries c.requires.silent c.requires.entries
