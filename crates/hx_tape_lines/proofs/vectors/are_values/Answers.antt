use Rattle.std.proofs.Common.{sym, ◌∙◌}
use Rattle.hx_tape_lines.proofs.Values.{are_values, not_not}
use Rattle.hx_tape_lines.proofs.vectors.are_values.Goals as goal

pub returns : goal.returns
returns c =
    let known = are_values c.args.values c.fits-values.0 in
    (λ is. known.0 (sym (not_not _) ∙ is), λ all. not_not _ ∙ known.1 all)
