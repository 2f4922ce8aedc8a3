use Rattle.hx_setup.specs.SetupText.{start_line}
use Rattle.hx_setup.proofs.Spelling.{start_feed, next_feed, next_line}
use Rattle.hx_setup.proofs.lines.next_start.Goals as goal

pub returns-in_err-line-clause-none : goal.returns-in_err-line-clause-none
returns-in_err-line-clause-none c = rw c.from_residual.ensures (next_feed start_line (λ _. Unit {0}) (λ is_open _. start_feed is_open) c.args.text.now c.in_err-line.ensures.none)

pub returns-in_err-read_start-clause-none : goal.returns-in_err-read_start-clause-none
returns-in_err-read_start-clause-none c = rw c.from_residual-in_err-read_start.ensures (next_line start_line (λ _. Unit {0}) (λ is_open _. start_feed is_open) c.args.text.now c.in_ok-line.line.now c.in_ok-line.rest.now c.in_ok-line.ensures.some (λ is_open _. c.in_err-read_start.ensures.none is_open))
