use Rattle.std.proofs.Common.{ap, sym, subst, ◌∙◌, nat_eq, ◌<◌, arith}
use Rattle.std.specs.Map.{lookup}
use Rattle.indexmap.specs.IndexMap.{get}
use Rattle.hx_reader.specs.Tables.{AreBelow, IsFound}
use Rattle.hx_reader.proofs.Tables.{below_more}
use Rattle.hx_reader.proofs.Found.{Finds, finds_more, not_same}
use Rattle.hx_reader.proofs.changes.append.Goals as goal

pub returns-clause-table : goal.returns-clause-table
returns-clause-table c =
    let t = c.args.table.now in
    let x = c.args.order in
    let es = t.orders.entries in
    let lt : t.next < c.in-Some.next = omega (arith, c.in-Some.ensures) in
    let entries = c.in_ok-push.ensures.ok in
    let none = subst (IsFound es x.reference) c.requires.free (c.requires.table.found x.reference) in
    let all = finds_more (λ q. get nat_eq t.indices q) (λ q. get nat_eq c.insert.new.self q) t.next x es c.requires.table.found c.requires.table.below none c.in-Ok.ensures.updates.1
    (λ q h. c.in-Ok.ensures.updates.2 q (not_same x.reference q (λ e. h (sym e))) ∙ ap (lookup (nat_eq q)) c.reserve.ensures.entries) in
    record {
      below = subst (AreBelow c.in-Some.next) (sym entries) (below_more t.next c.in-Some.next x es lt c.requires.table.below);
      found = subst (Finds (λ q. get nat_eq c.insert.new.self q)) (sym entries) all;
      levels = c.in_ok-push.ensures.levels;
    }
