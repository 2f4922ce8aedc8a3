use Rattle.std.proofs.Common.{◌≡◌, ◌<◌, ◌≤◌, length, true, arith, sym, ◌∙◌}
use Rattle.std.specs.List.{list_all}
use Rattle.hx_show.specs.Lines.{is_digit}
use Rattle.hx_show.proofs.Cuts.{not_empty, bytes_some}
use Rattle.hx_show.proofs.reading.bytes_of.Goals as goal

pub returns-in-Ok-clause-some : goal.returns-in-Ok-clause-some
returns-in-Ok-clause-some c =
    let some : 0 < length c.args.digits.now = not_empty c.args.digits.now (sym c.is_empty.ensures ∙ c.if-is_empty.false) in
    let few : length c.args.digits.now ≤ 2046 = omega (arith, c.if-digits-gt-MOST_DIGITS.false) in
    let lower : list_all is_digit c.args.digits.now ≡ true = sym c.are_digits.ensures ∙ c.if-not-are_digits.false in
    bytes_some c.args.digits.now c.in-Ok.bytes.items some few lower c.in-Ok.ensures.ok
