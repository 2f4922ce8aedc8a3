use Rattle.std.proofs.Common.{◌≡◌, ◌∙◌, ◌++◌, ◌+◌, ◌∷◌, ℕ, List, [], ap, length, sym, refl, subst, arith, length-append}
use Rattle.hx_blog.specs.Feed.{feed}
use Rattle.hx_blog.specs.Ends.{room_of}
use Rattle.hx_rules.specs.declared.event.Event.{Event}
use Rattle.hx_blog.specs.Ends.{WriterState}
use Rattle.hx_members.specs.Setups.{Setup}
use Rattle.hx_market.specs.Markets.{Market}
use Rattle.hx_market.specs.MarketModel.{Seen}
use Rattle.hx_market.specs.Outputs.{Outcome}
use Rattle.hx_market.specs.Refusals.{refusal}
use Rattle.hx_market.specs.Steps.{step}
use Rattle.hx_desk.specs.declared.entry.Entry.{Entry}
use Rattle.hx_desk.specs.declared.entry.Done.{Done}
use Rattle.hx_desk.specs.Rows.{RowList, with_replies, members_of, shown}
use Rattle.hx_desk.specs.Entries.{entry_of, feed_spelled}
use Rattle.hx_desk.specs.Desks.{DeskState, Grows, desk_of}
use Rattle.hx_desk.proofs.Standing.{grown_to, still_shown}
use Rattle.hx_desk.proofs.desk.Desk.record.Goals as goal

pub invariant_of-self-2 : goal.invariant_of-self-2
invariant_of-self-2 c =
    let inside = c.self.inside in
    let entry : Entry = record { pass = c.args.pass; event = c.in_ok-copy.field-0 } in
    let more = c.commit_entry.ensures in
    let setup : c.prepare.new.self.setup ≡ inside.market.setup = c.prepare.ensures.setup in
    let market : c.prepare.new.self.market ≡ inside.market.market = c.prepare.ensures.market in
    let seen : Seen = c.prepare.new.self in
    let old : Outcome = step inside.market.setup inside.market.market entry.event in
    let step_is : step seen.setup seen.market entry.event ≡ old = ap (λ (s : Setup). step s seen.market entry.event) setup ∙ ap (λ (m : Market). step inside.market.setup m entry.event) market in
    grown_to inside.market.setup _ inside.market.market _ inside.writer.published _ inside.writer.staged _ inside.history.items _ inside.rows.rows _ inside.rows.published_end _ inside.published_end inside.sealed inside.writing.items inside.waiting.items _ entry
    c.self.invariant
    (ap (λ (e : Event). refusal inside.market.setup inside.market.market.recorded e) c.in_ok-copy.ensures.equal ∙ c.in_ok-prepared.ensures.passes)
    (more.setup ∙ setup)
    (more.market ∙ ap (λ (o : Outcome). o.market) step_is)
    (ap (λ (w : WriterState Entry). w.published) more.writer)
    (ap (λ (w : WriterState Entry). w.staged) more.writer ∙ ap (λ (o : Outcome). inside.writer.staged ++ feed_spelled o.output.feed) step_is)
    (more.history ∙ ap (λ (h : List Entry). h ++ entry ∷ []) c.reserve.ensures.items)
    (more.rows ∙ ap (λ (o : Outcome). with_replies c.reserve-2.new.self.rows o.output.replies) step_is ∙ ap (λ (r : RowList). with_replies r old.output.replies) c.reserve-2.ensures.same)
    (more.published_end ∙ c.reserve-2.ensures.published_end)
    (c.in_ok-list_members.ensures.ok ∙ ap (λ (l : List ℕ). inside.waiting.items ++ l) (c.reply_members-2.ensures ∙ c.in_ok-prepared.ensures.reply_members ∙ ap (λ (e : Event). members_of (step inside.market.setup inside.market.market e).output.replies) (sym c.in_ok-copy.ensures.equal)))

pub returns-clause-ok : goal.returns-clause-ok
returns-clause-ok c =
    let inside = c.self.inside in
    let more = c.commit_entry.ensures in
    let writer : WriterState Entry = inside.writer in
    let seen : Seen = c.prepare.new.self in
    let replies = (step seen.setup seen.market c.in_ok-copy.field-0).output.replies in
    let old : DeskState = desk_of inside.writer inside.market inside.history.items inside.rows inside.published_end inside.sealed inside.reserved in
    let new : DeskState = desk_of c.commit_entry.new.writer c.commit_entry.new.market c.commit_entry.new.history.items c.commit_entry.new.rows inside.published_end inside.sealed inside.reserved in
    let done : Done = record { place = c.len.result + 1; first = c.reached.result + 1; count = c.feed_count-needed.result } in
    subst (λ (d : DeskState). Grows d new (entry_of c.args.pass c.args.event.now) done) c.self.view_is
    (record {
      log = ap (λ (w : WriterState Entry). w.log) more.writer;
      setup = more.setup ∙ c.prepare.ensures.setup;
      history =
          more.history ∙ ap (λ (h : List Entry). h ++ record { pass = c.args.pass; event = c.in_ok-copy.field-0 } ∷ []) c.reserve.ensures.items
          ∙ ap (λ (e : Event). inside.history.items ++ entry_of c.args.pass e ∷ []) c.in_ok-copy.ensures.equal;
      published_end = refl;
      sealed = refl;
      reserved = refl;
      published = ap (λ (w : WriterState Entry). w.published) more.writer;
      rows =
          (λ i. shown ((more.published_end ∙ c.reserve-2.ensures.published_end) i) ((more.rows ∙ ap (λ (r : RowList). with_replies r replies) c.reserve-2.ensures.same) i))
          ∙ still_shown inside.market.setup inside.market.market inside.writer.published inside.writer.staged inside.history.items inside.rows.rows inside.rows.published_end inside.published_end inside.sealed inside.writing.items inside.waiting.items replies
          c.self.invariant;
      place = omega (
        arith,
        c.len.ensures,
        c.reserve.new.self.ok,
        ap (λ (h : List Entry). length h) more.history,
        length-append c.reserve.new.self.items (record { pass = c.args.pass; event = c.in_ok-copy.field-0 } ∷ []),
      );
      first =
          ap (λ (n : ℕ). n + 1)
          (c.reached.ensures.messages ∙ sym (length-append (feed writer.published) writer.staged) ∙ ap (λ (l : List (List ℕ)). length l) c.self.invariant.all_feed);
      count = c.feed_count-needed.ensures ∙ c.in_ok-prepared.ensures.feed_count;
      accepted = c.in_ok-prepared.ensures.passes;
      room = omega (
        arith,
        c.if-free-needed.false,
        c.saturating_sub-free.ensures,
        c.free.ensures,
        c.reserved_from.ensures,
        c.feed_count-needed.ensures,
        c.in_ok-prepared.ensures.feed_count,
        ap room_of (ap (λ (d : DeskState). d.log) c.self.view_is ∙ c.requires),
        length-append (feed writer.published) writer.staged,
        ap (λ (l : List (List ℕ)). length l) c.self.invariant.all_feed,
      );
    })
