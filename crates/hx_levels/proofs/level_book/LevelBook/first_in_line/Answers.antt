use Rattle.std.proofs.Common.{subst}
use Rattle.hx_book.specs.Book.{KeysDiffer}
use Rattle.hx_levels.specs.LevelBook.{with_room, is_in, line, walked, unconditional}
use Rattle.hx_levels.proofs.Parts.{differ-filtered}
use Rattle.hx_levels.proofs.LevelNext.{queued}
use Rattle.hx_levels.proofs.level_book.LevelBook.first_in_line.Goals as goal

pub returns-clause-keys : goal.returns-clause-keys
returns-clause-keys c =
    let i = c.self.inside in
    let q = queued i.linked_orders i.sides.levels i.time i.reserved i.retained i.next (with_room i.conditional i.sides.sizes) (walked i.linked_orders i.time) c.self.invariant in
    subst (λ v. KeysDiffer (line c.args.at c.args.shown v.orders)) c.self.view_is
    (differ-filtered (is_in c.args.at c.args.shown) (unconditional (walked i.linked_orders i.time)) q.differ)
