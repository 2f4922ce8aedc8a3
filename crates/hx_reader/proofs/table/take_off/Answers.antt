use Rattle.std.proofs.Common.{ap, sym, ◌∙◌, ◌≤◌, arith}
use Rattle.hx_reader.specs.Tables.{is_number, orders_in}
use Rattle.hx_reader.specs.Levels.{level_at, level_in, reduced}
use Rattle.hx_reader.proofs.Tables.{set_same}
use Rattle.hx_reader.proofs.LevelLaws.{retained_alike, retained_has, enough_for, level_reduced, less}
use Rattle.hx_reader.proofs.table.take_off.Goals as goal

pub reduce-requires : goal.reduce-requires
reduce-requires c =
    let there = rw c.unwrap-order.ensures at c.get_mut.ensures.value in
    let x = c.unwrap-order.result.now in
    let has = retained_has (λ q. level_at c.args.levels.now q) c.level_key_of.result (is_number c.args.number) x c.args.orders.now.entries c.level_key_of.ensures (sym there) c.requires.levels in
    let le : c.args.shares ≤ x.shares = omega (arith, c.if-was-shares.true) in
    record { there = has.there; enough = enough_for c.args.shares x.shares (level_at c.args.levels.now c.level_key_of.result) le has.enough }

pub returns-then-was-shares-clause-levels : goal.returns-then-was-shares-clause-levels
returns-then-was-shares-clause-levels c =
    let there = rw c.unwrap-order.ensures at c.get_mut.ensures.value in
    let x = c.unwrap-order.result.now in
    let n = c.args.shares in
    let es = c.args.orders.now.entries in
    let le : n ≤ x.shares = omega (arith, c.if-was-shares.true) in
    retained_alike (λ q. level_at c.reduce.new.levels q) (λ q. level_at c.args.levels.now q) c.level_key_of.result x (orders_in es) (orders_in (c.get_mut.follows.lender (less n x)).entries) (reduced n) c.level_key_of.ensures
    c.reduce.ensures.changed c.reduce.ensures.others c.requires.levels
    (λ q. ap (λ l. level_in q (orders_in l)) (c.get_mut.follows.holds (less n x)).0 ∙ level_reduced q (is_number c.args.number) n x es (sym there) le)

pub returns-else-was-shares-clause-same : goal.returns-else-was-shares-clause-same
returns-else-was-shares-clause-same c = λ _.
    let there = rw c.unwrap-order.ensures at c.get_mut.ensures.value in
    (c.get_mut.follows.holds c.unwrap-order.result.now).0 ∙ set_same (is_number c.args.number) c.unwrap-order.result.now c.args.orders.now.entries (sym there)

pub returns-else-was-shares-clause-levels : goal.returns-else-was-shares-clause-levels
returns-else-was-shares-clause-levels c =
    let there = rw c.unwrap-order.ensures at c.get_mut.ensures.value in
    let same = (c.get_mut.follows.holds c.unwrap-order.result.now).0 ∙ set_same (is_number c.args.number) c.unwrap-order.result.now c.args.orders.now.entries (sym there) in
    λ q. c.requires.levels q ∙ ap (λ l. level_in q (orders_in l)) (sym same)
