use Rattle.std.proofs.Common.{◌≡◌, ◌∷◌, [], take, length, sym, ◌∙◌, ap, subst}
use mathlib.Core.List.{IsPrefix}
use Rattle.hx_journal.specs.Lines.{lines_of, text_of}
use Rattle.hx_journal.specs.Records.{sealed, records_of, recovered, ReadsAlike}
use Rattle.hx_journal.proofs.Sealing.{sealed_again}
use Rattle.hx_journal.proofs.Moments.{weaker}
use Rattle.hx_journal.proofs.Recovery.{lines_of_front, front_text, still_read, tape_lines}
use Rattle.hx_journal.proofs.opening.resume.Goals as goal

pub returns-in-Err-clause-cause : goal.returns-in-Err-clause-cause
returns-in-Err-clause-cause g c = c.in-Err.ensures.cause _ _

pub open-requires-clause-front : goal.open-requires-clause-front
open-requires-clause-front g c = rw (sym c.requires.read) (front_text c.args.text.now c.args.end c.requires.front)

pub open-requires-clause-count : goal.open-requires-clause-count
open-requires-clause-count g c = rw (sym c.requires.read) (c.requires.count ∙ ap length (sym (lines_of_front c.args.text.now c.args.end c.requires.front)))

pub invariant_of-journal : goal.invariant_of-journal
invariant_of-journal g c = λ _.
    let front = subst (λ f. lines_of (take c.args.end f) ≡ sealed (lines_of f)) c.requires.read (lines_of_front c.args.text.now c.args.end c.requires.front) in
    let is = c.in-Ok-open.ensures.stored ∙ front in
    record {
      whole = ap sealed is ∙ sealed_again (lines_of (g.D.Device.seen c.args.device)) ∙ sym is;
      waiting = ap records_of c.in-Ok-open.ensures.waiting ∙ sym c.in-Ok-open.ensures.waiting;
      number = c.in-Ok.ensures.count ∙ ap (λ f. length (recovered f)) c.requires.read ∙ ap (λ l. length (records_of l)) (sym is);
    }

pub returns-in-Ok-open-clause-opened : goal.returns-in-Ok-open-clause-opened
returns-in-Ok-open-clause-opened g c =
    let front = subst (λ f. lines_of (take c.args.end f) ≡ sealed (lines_of f)) c.requires.read (lines_of_front c.args.text.now c.args.end c.requires.front) in
    let is = c.in-Ok-open.ensures.stored ∙ front in
    record {
      is_open = c.in-Ok-open.ensures.open;
      head_is = subst (λ l. IsPrefix (c.args.head.now ∷ []) l) (ap (λ f. sealed (lines_of f)) c.requires.read ∙ sym is) c.in-Ok.ensures.head;
      durable = ap records_of is;
      waiting = c.in-Ok-open.ensures.waiting;
      tape_is = c.in-Ok.ensures.tape ∙ ap (λ f. text_of (recovered f)) c.requires.read;
      records_are = tape_lines (g.D.Device.seen c.args.device) c.in-Ok.found.tape.items (c.in-Ok.ensures.tape ∙ ap (λ f. text_of (recovered f)) c.requires.read);
    }

pub returns-in-Ok-open-clause-any_moment : goal.returns-in-Ok-open-clause-any_moment
returns-in-Ok-open-clause-any_moment g c =
    let bytes = g.D.Device.seen c.args.device in
    let front = subst (λ f. take c.args.end f ≡ text_of (sealed (lines_of f))) c.requires.read c.requires.front in
    weaker g.D.Device.moment g.D.Device.left_since c.args.device c.in-Ok-open.lines.device _ (ReadsAlike bytes) c.in-Ok-open.ensures.any_moment (λ f between. still_read bytes f c.args.end front between)

pub returns-in-Err-open-clause-any_moment_err : goal.returns-in-Err-open-clause-any_moment_err
returns-in-Err-open-clause-any_moment_err g c =
    let bytes = g.D.Device.seen c.args.device in
    let front = subst (λ f. take c.args.end f ≡ text_of (sealed (lines_of f))) c.requires.read c.requires.front in
    weaker g.D.Device.moment g.D.Device.left_since c.args.device c.in-Err-open.device _ (ReadsAlike bytes) c.in-Err-open.ensures.any_moment_err (λ f between. still_read bytes f c.args.end front between)
