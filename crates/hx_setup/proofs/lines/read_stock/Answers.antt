use Rattle.hx_setup.specs.SetupText.{stock_line}
use Rattle.hx_setup.proofs.Spelling.{stock_name, stock_rest, stock_made, cut_next, cut_none}
use Rattle.hx_setup.proofs.lines.read_stock.Goals as goal

pub returns-in_err-later-clause-none : goal.returns-in_err-later-clause-none
unfolding stock_line
returns-in_err-later-clause-none c = rw c.from_residual.ensures (λ s has e. c.in_err-later.ensures.none _ e)

pub returns-in_err-symbol-clause-none : goal.returns-in_err-symbol-clause-none
returns-in_err-symbol-clause-none c = rw c.from_residual-in_err-symbol.ensures (λ s has e.
    cut_none c.in_ok-later.field-0.now _ _ (stock_rest c.args.line.now c.in_ok-later.field-0.now s c.in_ok-later.ensures.some e) c.in_err-symbol.ensures.none)

pub returns-in_err-name-clause-none : goal.returns-in_err-name-clause-none
returns-in_err-name-clause-none c = rw c.from_residual-in_err-name.ensures (λ s has e.
    let rest = stock_rest c.args.line.now c.in_ok-later.field-0.now s c.in_ok-later.ensures.some e in
    let words = cut_next c.in_ok-later.field-0.now c.in_ok-symbol.symbol.now c.in_ok-symbol.tail_text.now _ _ rest (stock_name s has) c.in_ok-symbol.ensures.some in
    c.in_err-name.ensures.none s.symbol.0 has.symbol_size has.name words.0)

pub returns-in_err-tail-clause-none : goal.returns-in_err-tail-clause-none
returns-in_err-tail-clause-none c = rw c.from_residual-in_err-tail.ensures (λ s has e.
    let rest = stock_rest c.args.line.now c.in_ok-later.field-0.now s c.in_ok-later.ensures.some e in
    let words = cut_next c.in_ok-later.field-0.now c.in_ok-symbol.symbol.now c.in_ok-symbol.tail_text.now _ _ rest (stock_name s has) c.in_ok-symbol.ensures.some in
    c.in_err-tail.ensures.none s.tail has.tail_size has.tail_bytes words.1)

pub returns-clause-some : goal.returns-clause-some
returns-clause-some c = (
  record {
    symbol_size = c.in_ok-name.ensures.some.0;
    tail_size = c.in_ok-tail.ensures.some.0;
    tail_bytes = c.in_ok-tail.ensures.some.1;
    name = c.in_ok-name.ensures.some.1;
  },
  stock_made c.args.line.now c.in_ok-later.field-0.now c.in_ok-symbol.symbol.now c.in_ok-symbol.tail_text.now c.in_ok-name.field-0 c.in_ok-tail.tail c.in_ok-later.ensures.some c.in_ok-symbol.ensures.some.0
      c.in_ok-name.ensures.some.2 c.in_ok-tail.ensures.some.2,
)
