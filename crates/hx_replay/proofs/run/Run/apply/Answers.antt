use Rattle.std.proofs.Common.{◌≡◌, ◌+◌, ◌++◌, ◌∙◌, ℕ, List, ap, subst, sym}
use Rattle.std.proofs.lemmas.Result.{err_from_is_err_and}
use Rattle.hx_tape_lines.specs.Events.{IsLineOf, IsNoLine}
use Rattle.hx_replay.specs.Run.{Progress, Applies}
use Rattle.hx_tape_lines.proofs.Lines.{some_of, none_of}
use Rattle.hx_replay.proofs.Applying.{no_line_is_bad}
use Rattle.hx_replay.proofs.run.Run.apply.Goals as goal

pub returns-in_default-clause-faults : goal.returns-in_default-clause-faults
returns-in_default-clause-faults g c = (
  ap (λ (p : Progress). p.events + 1) c.self.view_is,
  no_line_is_bad c.args.self.now c.args.text.now (none_of (IsNoLine c.args.text.now) c.in_ok-event.field-0 c.in_default.is c.in_ok-event.ensures.none),
)

pub returns-in_err-apply_event-clause-faults : goal.returns-in_err-apply_event-clause-faults
returns-in_err-apply_event-clause-faults g c =
    let p = err_from_is_err_and c.from_residual-in_err-apply_event.result c.from_residual-in_err-apply_event.ensures.1 in
    let found = some_of (IsLineOf c.args.text.now) c.in_ok-event.field-0 c.in-Some.event c.in-Some.is c.in_ok-event.ensures.some in
    rw (p.1, p.2, found.is_line) (c.in_err-apply_event.ensures.faults found.entry found.is_known found.event_is)

pub returns-clause-ok : goal.returns-clause-ok
returns-clause-ok g c =
    let found = some_of (IsLineOf c.args.text.now) c.in_ok-event.field-0 c.in-Some.event c.in-Some.is c.in_ok-event.ensures.some in
    let r = c.in_ok-apply_event.ensures.ok found.entry found.is_known found.event_is in
    (r.0, subst (λ (t : List ℕ). Applies c.args.self.now c.apply_event.new.self t r.0) (sym found.is_line) r.1, c.keep_index.ensures ∙ r.2 ∙ ap (λ (l : List ℕ). l ++ r.0) c.in_ok-event.ensures.lines)
