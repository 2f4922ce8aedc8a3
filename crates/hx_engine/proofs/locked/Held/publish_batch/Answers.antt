use Rattle.std.proofs.Common.{ap, arith}
use Rattle.hx_blog.specs.Ends.{WriterState}
use Rattle.hx_desk.specs.declared.entry.Entry.{Entry}
use Rattle.hx_engine.proofs.HeldLaws.{published_at}
use Rattle.hx_engine.proofs.locked.Held.publish_batch.Goals as goal

pub tell-requires-clause-keeps : goal.tell-requires-clause-keeps
tell-requires-clause-keeps g c =
    let held = c.args.self.now in
    let written_batch = c.args.written_batch in
    published_at held.desk.history held.desk.sealed written_batch.end written_batch.journal_writer.writer.published written_batch.knows.known held.register.published written_batch.all written_batch.ends (omega (arith, c.sealed_len.ensures)) c.confirm.ensures.beginning (ap (λ (w : WriterState Entry). w.published) held.registered)
