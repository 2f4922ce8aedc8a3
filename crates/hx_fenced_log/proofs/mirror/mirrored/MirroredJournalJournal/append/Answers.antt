use Rattle.std.specs.Prelude.{Result, Ok, Err, OnOk, is_err, false}
use Rattle.std.proofs.Common.{◌≡◌, sym}
use Rattle.hx_fenced_log.proofs.HalfWritten.{one_more}
use Rattle.hx_fenced_log.proofs.mirror.mirrored.MirroredJournalJournal.append.Goals as goal

on_ok : {T E : Type 0} (r : Result T E) (P : Type 0) → is_err r ≡ false → OnOk r P → P
on_ok (Ok t) P e p = p
on_ok (Err t) P e p = absurd (cc (e))

pub invariant_of-self-else-is_err : goal.invariant_of-self-else-is_err
invariant_of-self-else-is_err g c =
    one_more g.J.Journal.appended g.J.Journal.durable g.M.Journal.appended g.M.Journal.durable g.M.Journal.is_open c.self.inside.journal c.append-appended.new.self c.self.inside.mirror c.self.inside.waiting.items c.args.bytes.now
    c.push_line.new.lines.items c.self.inside.in_step c.self.invariant c.requires.record_is c.in_ok-push_line.ensures.ok (on_ok c.append-appended.result _ (sym c.if-is_err.ensures.value) c.append-appended.ensures.appended) c.append-appended.ensures.durable
