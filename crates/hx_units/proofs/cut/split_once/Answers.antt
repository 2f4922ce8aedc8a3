use Rattle.std.proofs.Common.{◌≡◌, ◌+◌, ◌-◌, length, take, drop, arith, length-drop}
use Rattle.std.proofs.lemmas.List.{take_all}
use Rattle.hx_units.proofs.Splits.{first_index, no_index}
use Rattle.hx_units.proofs.cut.split_once.Goals as goal

pub returns-clause-some : goal.returns-clause-some
returns-clause-some c =
    let after = c.in_ok-at.at + 1 in
    let whole : take (length c.args.text.now - after) (drop after c.args.text.now) ≡ drop after c.args.text.now = take_all (length c.args.text.now - after) (drop after c.args.text.now) (omega (arith, length-drop after c.args.text.now)) in
    rw whole (first_index c.args.text.now c.args.byte c.in_ok-at.at c.in_ok-at.ensures)

pub returns-in_err-at-clause-none : goal.returns-in_err-at-clause-none
returns-in_err-at-clause-none c = rw c.from_residual.ensures (no_index c.args.text.now c.args.byte c.in_err-at.ensures)
