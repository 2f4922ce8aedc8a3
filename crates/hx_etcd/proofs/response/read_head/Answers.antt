use Rattle.std.proofs.Common.{◌≡◌, sym, ◌∙◌}
use Rattle.hx_etcd.proofs.Heads.{is_too_long, passes_limit, has_no_framing}
use Rattle.hx_etcd.proofs.response.read_head.Goals as goal

pub returns-in-Ok-Complete-clause-err : goal.returns-in-Ok-Complete-clause-err
returns-in-Ok-Complete-clause-err c =
    let found = rw c.in-Ok-Complete.field-0-is at c.in-Ok-Complete.ensures.complete in
    passes_limit c.args.input.now c.parse_response.new.headers c.in-Ok-Complete.head found.0 found.1 c.if-head-gt-MOST_HEAD.true

pub returns-in-Err-response_framing-clause-err : goal.returns-in-Err-response_framing-clause-err
returns-in-Err-response_framing-clause-err c =
    let found = rw c.in-Ok-Complete.field-0-is at c.in-Ok-Complete.ensures.complete in
    has_no_framing c.args.input.now c.parse_response.new.headers c.in-Ok-Complete.head c.from_spans-known.result found.0 found.1 c.from_spans-known.ensures c.in-Err-response_framing.error (sym c.response_framing.ensures ∙ c.in-Err-response_framing.is)

pub returns-in-Ok-Partial-clause-err : goal.returns-in-Ok-Partial-clause-err
returns-in-Ok-Partial-clause-err c =
    is_too_long c.args.input.now (rw c.in-Ok-Partial.field-0-is at c.in-Ok-Partial.ensures.partial) c.if-input-ge-MOST_HEAD.true
