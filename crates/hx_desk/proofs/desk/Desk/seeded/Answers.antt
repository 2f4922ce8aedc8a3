use Rattle.std.proofs.Common.{◌≡◌, ◌∙◌, ap, sym, length, refl}
use Rattle.hx_blog.specs.Ends.{WriterState}
use Rattle.hx_desk.specs.declared.entry.Entry.{Entry}
use Rattle.hx_market.specs.Markets.{opening}
use Rattle.hx_desk.specs.Desks.{DeskState}
use Rattle.hx_desk.proofs.Standing.{starts, shows_nothing}
use Rattle.hx_desk.proofs.desk.Desk.seeded.Goals as goal

pub invariant_of-result-2 : goal.invariant_of-result-2
invariant_of-result-2 c =
    let made = c.in_ok-market.ensures in
    starts c.in_ok-market.market.setup c.in_ok-market.market.market _ _ c.new-2.result.items c.in_ok-new.field-0.rows c.in_ok-new.field-0.published_end _ c.new-4.result.items c.new-5.result.items
    (made.market ∙ ap opening (sym made.setup))
    (ap (λ (w : WriterState Entry). w.published) c.writer.view_is ∙ c.requires.0)
    (ap (λ (w : WriterState Entry). w.staged) c.writer.view_is ∙ c.requires.1)
    c.new-2.ensures.items c.in_ok-new.ensures.rows c.in_ok-new.ensures.published_end refl refl c.phase.ensures c.new-4.ensures.items c.new-5.ensures.items

pub returns : goal.returns
returns c =
    let made = c.in_ok-market.ensures in
    let shown = shows_nothing c.in_ok-new.field-0.published_end c.in_ok-new.field-0.rows c.in_ok-new.ensures.published_end c.in_ok-new.ensures.rows in
    let log = ap (λ (w : WriterState Entry). w.log) c.writer.view_is in
    let published = ap (λ (w : WriterState Entry). w.published) c.writer.view_is ∙ c.requires.0 in
    (λ i. record {
      log = log i;
      setup = made.setup i;
      history = c.new-2.ensures.items i;
      published_end = 0;
      sealed = 0;
      market = made.market i;
      published = published i;
      rows = shown i;
      reserved = 0;
    })
