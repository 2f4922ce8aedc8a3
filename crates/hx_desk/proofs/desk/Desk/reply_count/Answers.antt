use Rattle.std.proofs.Common.{◌≡◌, List, ℕ, length, ap, ◌∙◌}
use Rattle.hx_desk.specs.Rows.{row_of}
use Rattle.hx_desk.specs.Desks.{DeskState}
use Rattle.hx_desk.proofs.Standing.{shows}
use Rattle.hx_desk.proofs.desk.Desk.reply_count.Goals as goal

pub returns-clause-count : goal.returns-clause-count
returns-clause-count c =
    c.count.ensures.count
    ∙ ap (λ (r : List (List ℕ)). length r) (shows c.self.inside.rows c.args.member c.count.ensures.range c.self.invariant.sized_counts c.self.invariant.sized_rows)
    ∙ ap (λ (d : DeskState). length (row_of d.rows c.args.member)) c.self.view_is
