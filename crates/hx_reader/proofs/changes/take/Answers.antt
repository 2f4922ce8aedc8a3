use Rattle.std.proofs.Common.{ap, sym, subst, ◌∙◌, ◌-◌, ◌≤◌, ◌<◌, true, false, arith, lt-ltb, le-ltb, nat_eq}
use Rattle.indexmap.specs.IndexMap.{get}
use Rattle.hx_itch.specs.Books.{without}
use Rattle.hx_reader.specs.Tables.{orders_in, is_number, AreBelow, IsFound}
use Rattle.hx_reader.proofs.Tables.{found_same, taken_is_without, taken_some, all_set}
use Rattle.hx_reader.proofs.Found.{Finds, finds_set}
use Rattle.hx_reader.proofs.Fits.{short_none, short_as}
use Rattle.hx_reader.proofs.changes.take.Goals as goal

pub returns-in_default-clause-cause : goal.returns-in_default-clause-cause
returns-in_default-clause-cause c =
    let es = c.args.table.now.orders.entries in
    short_none c.args.reference c.args.shares es (subst (IsFound es c.args.reference) c.in_default.is c.number_of.ensures.found)

pub returns-then-was-shares-clause-cause : goal.returns-then-was-shares-clause-cause
returns-then-was-shares-clause-cause c =
    let es = c.args.table.now.orders.entries in
    short_as c.args.reference c.in-Some.number c.args.shares c.take_off-was.result es true (subst (IsFound es c.args.reference) c.in-Some.is c.number_of.ensures.found) c.take_off-was.ensures.was
    (lt-ltb c.take_off-was.result.shares c.args.shares c.if-was-shares.true)

pub returns-then-was-shares-2-clause-ok : goal.returns-then-was-shares-2-clause-ok
returns-then-was-shares-2-clause-ok c =
    let es = c.args.table.now.orders.entries in
    let q = c.args.reference in
    let x = c.take_off-was.result in
    let le : x.shares ≤ c.args.shares = omega (arith, c.if-was-shares-2.true) in
    let found = subst (IsFound es q) c.in-Some.is c.number_of.ensures.found in
    c.remove.ensures.book
    ∙ ap (λ l. without q (orders_in l)) (c.take_off-was.ensures.same le)
    ∙ sym (taken_is_without q c.args.shares x (orders_in es) (found_same q c.in-Some.number es found.0 ∙ c.take_off-was.ensures.was) (le-ltb c.args.shares x.shares le))

pub returns-then-was-shares-2-clause-fits : goal.returns-then-was-shares-2-clause-fits
returns-then-was-shares-2-clause-fits c =
    let es = c.args.table.now.orders.entries in
    short_as c.args.reference c.in-Some.number c.args.shares c.take_off-was.result es false (subst (IsFound es c.args.reference) c.in-Some.is c.number_of.ensures.found) c.take_off-was.ensures.was
    (le-ltb c.take_off-was.result.shares c.args.shares c.if-was-shares.false)

pub returns-else-was-shares-2-clause-table : goal.returns-else-was-shares-2-clause-table
returns-else-was-shares-2-clause-table c =
    let t = c.args.table.now in
    let es = t.orders.entries in
    let x = c.take_off-was.result in
    let lt : c.args.shares < x.shares = omega (arith, c.if-was-shares.false, c.if-was-shares-2.false) in
    let entries = c.take_off-was.ensures.less lt in
    record {
      below = subst (AreBelow t.next) (sym entries) (all_set (λ e. e.0 < t.next) (is_number c.in-Some.number) (x.shares - c.args.shares) x es (λ k i. i) c.take_off-was.ensures.was c.requires.below);
      found = subst (Finds (λ q. get nat_eq t.indices q)) (sym entries) (finds_set (λ q. get nat_eq t.indices q) (is_number c.in-Some.number) (x.shares - c.args.shares) x es c.requires.found c.take_off-was.ensures.was);
      levels = c.take_off-was.ensures.levels;
    }

pub returns-else-was-shares-2-clause-ok : goal.returns-else-was-shares-2-clause-ok
returns-else-was-shares-2-clause-ok c =
    let es = c.args.table.now.orders.entries in
    let q = c.args.reference in
    let x = c.take_off-was.result in
    let lt : c.args.shares < x.shares = omega (arith, c.if-was-shares.false, c.if-was-shares-2.false) in
    let found = subst (IsFound es q) c.in-Some.is c.number_of.ensures.found in
    ap orders_in (c.take_off-was.ensures.less lt) ∙ taken_some q c.in-Some.number c.args.shares x es found.0 c.take_off-was.ensures.was (lt-ltb c.args.shares x.shares lt)

pub returns-else-was-shares-2-clause-fits : goal.returns-else-was-shares-2-clause-fits
returns-else-was-shares-2-clause-fits c =
    let es = c.args.table.now.orders.entries in
    short_as c.args.reference c.in-Some.number c.args.shares c.take_off-was.result es false (subst (IsFound es c.args.reference) c.in-Some.is c.number_of.ensures.found) c.take_off-was.ensures.was
    (le-ltb c.take_off-was.result.shares c.args.shares c.if-was-shares.false)
