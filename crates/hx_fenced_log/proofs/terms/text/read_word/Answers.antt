use Rattle.hx_fenced_log.proofs.Spelling.{no_word, first_word}
use Rattle.hx_fenced_log.proofs.terms.text.read_word.Goals as goal

pub returns-in_err-digits-clause-none : goal.returns-in_err-digits-clause-none
returns-in_err-digits-clause-none c = rw c.from_residual.ensures (λ n rest lt is. no_word c.args.text.now rest n c.in_err-digits.ensures.none is)

pub returns-in_err-read_number-clause-none : goal.returns-in_err-read_number-clause-none
returns-in_err-read_number-clause-none c = rw c.from_residual-in_err-read_number.ensures (λ n rest lt is.
    let cut = first_word c.args.text.now c.in_ok-digits.digits.now c.in_ok-digits.rest.now rest n c.in_ok-digits.ensures.some.0 c.in_ok-digits.ensures.some.1 lt is in
    c.in_err-read_number.ensures.none n lt cut.0)
