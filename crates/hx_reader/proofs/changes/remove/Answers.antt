use Rattle.std.proofs.Common.{ap, sym, subst, ◌∙◌, nat_eq, ◌<◌}
use Rattle.indexmap.specs.IndexMap.{get}
use Rattle.hx_reader.specs.Tables.{orders_in, is_number, order_at, AreBelow, IsFound}
use Rattle.hx_reader.proofs.Tables.{all_left, removed_same}
use Rattle.hx_reader.proofs.Found.{Finds, finds_less, not_same}
use Rattle.hx_reader.proofs.changes.remove.Goals as goal

pub take_out-requires-clause-there : goal.take_out-requires-clause-there
take_out-requires-clause-there c = (subst (IsFound c.args.table.now.orders.entries c.args.reference) c.requires.slot (c.requires.table.found c.args.reference)).1

pub returns-clause-table : goal.returns-clause-table
returns-clause-table c =
    let t = c.args.table.now in
    let es = t.orders.entries in
    let k = c.args.number in
    let entries = c.take_out.ensures.entries in
    let all = finds_less (λ q. get nat_eq t.indices q) (λ q. get nat_eq c.swap_remove.new.self q) c.args.reference k es c.requires.table.found c.requires.slot (ap (order_at k) (sym entries) ∙ c.take_out.ensures.gone)
    c.swap_remove.ensures.updates.1 (λ q h. c.swap_remove.ensures.updates.2 q (not_same c.args.reference q (λ e. h (sym e)))) in
    record {
      below = subst (AreBelow t.next) (sym entries) (all_left (λ e. e.0 < t.next) (is_number k) es c.requires.table.below);
      found = subst (Finds (λ q. get nat_eq c.swap_remove.new.self q)) (sym entries) all;
      levels = c.take_out.ensures.levels;
    }

pub returns-clause-book : goal.returns-clause-book
returns-clause-book c =
    let es = c.args.table.now.orders.entries in
    let found = subst (IsFound es c.args.reference) c.requires.slot (c.requires.table.found c.args.reference) in
    ap orders_in c.take_out.ensures.entries ∙ removed_same c.args.reference c.args.number es found.0
