use Rattle.std.proofs.Common.{ap, sym, ◌∙◌}
use Rattle.hx_reader.specs.Tables.{is_number, orders_in}
use Rattle.hx_reader.specs.Levels.{level_at, level_in, lessened}
use Rattle.hx_reader.proofs.LevelLaws.{retained_alike, retained_has, level_left}
use Rattle.hx_reader.proofs.table.take_out.Goals as goal

pub leave-requires : goal.leave-requires
leave-requires c =
    let has = retained_has (λ q. level_at c.args.levels.now q) c.level_key_of.result (is_number c.args.number) c.unwrap-order.result c.args.orders.now.entries c.level_key_of.ensures (sym c.remove.ensures.value ∙ c.unwrap-order.ensures) c.requires.levels in
    record { there = has.there; enough = has.enough; some = has.some }

pub returns-clause-levels : goal.returns-clause-levels
returns-clause-levels c =
    let x = c.unwrap-order.result in
    let es = c.args.orders.now.entries in
    retained_alike (λ q. level_at c.leave.new.levels q) (λ q. level_at c.args.levels.now q) c.level_key_of.result x (orders_in es) (orders_in c.remove.new.self.entries) (lessened x.shares) c.level_key_of.ensures
    c.leave.ensures.changed c.leave.ensures.others c.requires.levels
    (λ q. ap (λ l. level_in q (orders_in l)) c.remove.ensures.entries ∙ level_left q (is_number c.args.number) x es (sym c.remove.ensures.value ∙ c.unwrap-order.ensures))
