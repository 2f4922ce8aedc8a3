use Rattle.std.proofs.Common.{◌≡◌, ◌++◌, ◌+◌, length, drop, take, ap, sym, ◌∙◌, arith}
use Rattle.hx_blog.specs.Feed.{feed}
use Rattle.hx_desk.specs.Entries.{ledger}
use Rattle.hx_desk.proofs.Standing.{writing_count, writing_staged, now_published, still_staged}
use Rattle.hx_desk.proofs.desk.publish_up_to.Goals as goal

pub overflow_sub-count : goal.overflow_sub-count
overflow_sub-count g c =
    let r = c.requires in
    omega (arith, writing_count c.args.market.now.setup c.args.history.now c.args.published_end c.args.sealed r.order r.published_end r.sealed)

pub publish_first-requires-clause-count : goal.publish_first-requires-clause-count
publish_first-requires-clause-count g c =
    let r = c.requires in
    omega (arith, writing_count c.args.market.now.setup c.args.history.now c.args.published_end c.args.sealed r.order r.published_end r.sealed, ap (λ k. length (feed k)) r.entries)

pub publish_first-requires-clause-named : goal.publish_first-requires-clause-named
publish_first-requires-clause-named g c =
    let r = c.requires in
    (λ i. feed (r.entries i) ++ r.left i)
    ∙ writing_staged c.args.market.now.setup c.args.writer.now.published c.args.writer.now.staged c.args.history.now c.args.published_end c.args.sealed r.order r.published r.staged

pub returns-clause-published : goal.returns-clause-published
returns-clause-published g c =
    let r = c.requires in
    ap (λ w. w.published) c.publish_first.ensures
    ∙ ap (λ k. c.args.writer.now.published ++ k) r.entries
    ∙ now_published c.args.market.now.setup c.args.writer.now.published c.args.history.now c.args.published_end c.args.sealed r.order r.published

pub returns-clause-staged : goal.returns-clause-staged
returns-clause-staged g c =
    let r = c.requires in
    let whole = ledger c.args.market.now.setup c.args.history.now in
    ap (λ w. feed w.published ++ w.staged) c.publish_first.ensures
    ∙ ap (λ k. feed (c.args.writer.now.published ++ g.N.NamesEntries.entries) ++ k) r.left
    ∙ ap (λ k. feed k ++ feed (drop c.args.sealed.entries whole)) (ap (λ k. c.args.writer.now.published ++ k) r.entries ∙ now_published c.args.market.now.setup c.args.writer.now.published c.args.history.now c.args.published_end c.args.sealed r.order r.published)
    ∙ still_staged c.args.market.now.setup c.args.history.now c.args.sealed.entries
