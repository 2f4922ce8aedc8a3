use Rattle.hx_fenced_log.proofs.Spelling.{after_number, after_term, after_writer, after_index, good_head}
use Rattle.hx_fenced_log.proofs.terms.text.read_head.Goals as goal

pub returns-in_err-term-clause-none : goal.returns-in_err-term-clause-none
returns-in_err-term-clause-none c = rw c.from_residual-in_err-term.ensures (λ h good is.
    let first = after_number c.args.line.now c.in_ok-after_mark.field-0.now c.in_ok-number.rest.now c.in_ok-number.number h
    c.in_ok-after_mark.ensures.some c.in_ok-number.ensures.some good is in
    c.in_err-term.ensures.none h.term _ good.term.1 first.1)

pub returns-in_err-writer-clause-none : goal.returns-in_err-writer-clause-none
returns-in_err-writer-clause-none c = rw c.from_residual-in_err-writer.ensures (λ h good is.
    let first = after_number c.args.line.now c.in_ok-after_mark.field-0.now c.in_ok-number.rest.now c.in_ok-number.number h
    c.in_ok-after_mark.ensures.some c.in_ok-number.ensures.some good is in
    let second = after_term c.in_ok-number.rest.now c.in_ok-term.rest.now c.in_ok-term.term h c.in_ok-term.ensures.some good first.1 in
    c.in_err-writer.ensures.none h.writer _ good.writer.1 second.1)

pub returns-in_err-read_number-clause-none : goal.returns-in_err-read_number-clause-none
returns-in_err-read_number-clause-none c = rw c.from_residual-in_err-read_number.ensures (λ h good is.
    let first = after_number c.args.line.now c.in_ok-after_mark.field-0.now c.in_ok-number.rest.now c.in_ok-number.number h
    c.in_ok-after_mark.ensures.some c.in_ok-number.ensures.some good is in
    let second = after_term c.in_ok-number.rest.now c.in_ok-term.rest.now c.in_ok-term.term h c.in_ok-term.ensures.some good first.1 in
    let third = after_writer c.in_ok-term.rest.now c.in_ok-writer.rest.now c.in_ok-writer.writer h c.in_ok-writer.ensures.some good second.1 in
    c.in_err-read_number.ensures.none h.index good.index.1 third.1)

pub returns-else-is_of_log-clause-none : goal.returns-else-is_of_log-clause-none
returns-else-is_of_log-clause-none c = λ h good is.
    let first = after_number c.args.line.now c.in_ok-after_mark.field-0.now c.in_ok-number.rest.now c.in_ok-number.number h
    c.in_ok-after_mark.ensures.some c.in_ok-number.ensures.some good is in
    let second = after_term c.in_ok-number.rest.now c.in_ok-term.rest.now c.in_ok-term.term h c.in_ok-term.ensures.some good first.1 in
    let third = after_writer c.in_ok-term.rest.now c.in_ok-writer.rest.now c.in_ok-writer.writer h c.in_ok-writer.ensures.some good second.1 in
    let fine = good_head h (record { number = c.in_ok-number.number; term = c.in_ok-term.term; writer = c.in_ok-writer.writer; index = c.in_ok-read_number.field-0 }) good
    first.0 second.0 third.0 (after_index c.in_ok-writer.rest.now c.in_ok-read_number.field-0 h c.in_ok-read_number.ensures.some good third.1) in
    let it_may = c.is_of_log.ensures.1 fine in
    cc (it_may, c.if-is_of_log.false)
