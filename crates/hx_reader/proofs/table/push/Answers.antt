use Rattle.std.proofs.Common.{ap, sym, ◌∙◌}
use Rattle.std.specs.Map.{remove_entry}
use Rattle.hx_reader.specs.Tables.{is_number, orders_in}
use Rattle.hx_reader.specs.Levels.{level_at, level_in, grown}
use Rattle.hx_reader.proofs.Tables.{comes_last, goes_again, orders_last}
use Rattle.hx_reader.proofs.LevelLaws.{retained_alike, level_joined}
use Rattle.hx_reader.proofs.table.push.Goals as goal

pub returns-in-Ok-clause-ok : goal.returns-in-Ok-clause-ok
returns-in-Ok-clause-ok c = c.in_ok-insert.ensures.entries ∙ comes_last c.args.number c.args.order c.args.orders.now.entries c.requires.last

pub returns-in-Ok-clause-levels : goal.returns-in-Ok-clause-levels
returns-in-Ok-clause-levels c =
    let x = c.args.order in
    let es = c.args.orders.now.entries in
    let last = c.in_ok-insert.ensures.entries ∙ comes_last c.args.number x es c.requires.last in
    retained_alike (λ q. level_at c.join.new.levels q) (λ q. level_at c.args.levels.now q) c.level_key_of.result x (orders_in es) (orders_in c.insert.new.self.entries) (grown x.shares) c.level_key_of.ensures
    c.in-Ok.ensures.ok c.in-Ok.ensures.others c.requires.levels
    (λ q. ap (λ l. level_in q (orders_in l)) last ∙ ap (level_in q) (orders_last c.args.number x es) ∙ level_joined q x (orders_in es))

pub returns-in-Err-clause-err : goal.returns-in-Err-clause-err
returns-in-Err-clause-err c =
    c.remove.ensures.entries
    ∙ ap (remove_entry (is_number c.args.number)) (c.in_ok-insert.ensures.entries ∙ comes_last c.args.number c.args.order c.args.orders.now.entries c.requires.last)
    ∙ goes_again c.args.number c.args.order c.args.orders.now.entries c.requires.last

pub returns-in-Err-clause-levels : goal.returns-in-Err-clause-levels
returns-in-Err-clause-levels c =
    let again =
    c.remove.ensures.entries
    ∙ ap (remove_entry (is_number c.args.number)) (c.in_ok-insert.ensures.entries ∙ comes_last c.args.number c.args.order c.args.orders.now.entries c.requires.last)
    ∙ goes_again c.args.number c.args.order c.args.orders.now.entries c.requires.last in
    λ q. c.in-Err.ensures.err q ∙ c.requires.levels q ∙ ap (λ l. level_in q (orders_in l)) (sym again)
