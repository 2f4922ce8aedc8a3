use Rattle.std.proofs.Common.{◌≡◌, ◌∙◌, ◌<◌, ap, sym, subst, length, List, ℕ}
use Rattle.std.specs.Prelude.{IfErr}
use Rattle.std.proofs.lemmas.Result.{IfOk-weaker}
use Rattle.hx_members.specs.Setups.{Setup}
use Rattle.hx_desk.specs.declared.entry.Entry.{Entry}
use Rattle.hx_units.specs.Fields.{texts}
use Rattle.hx_desk.specs.Rows.{page}
use Rattle.hx_desk.specs.Entries.{events_of}
use Rattle.hx_desk.specs.Secrecy.{AreRepliesWithoutTrace}
use Rattle.hx_market.specs.Markets.{Market}
use Rattle.hx_desk.specs.Desks.{DeskState, is_over}
use Rattle.hx_engine.specs.Exchanges.{AreKnownReplies}
use Rattle.hx_engine.proofs.PassLaws.{knows_whole, history_known, market_known, row_known}
use Rattle.hx_engine.proofs.exchange.Exchange.news_page.Goals as goal

pub returns-clause-replies : goal.returns-clause-replies
returns-clause-replies g c =
    let desk = c.inform.new.self in
    let held = c.deref_mut-held.result.now in
    let of_setup : desk.setup ≡ g.V.Venue.setup = ap (λ (d : DeskState). d.setup) c.inform.ensures.same ∙ held.of_setup in
    let knows : c.inform.new.reader.known ≡ desk.published = c.inform.ensures.known ∙ ap (λ (d : DeskState). d.published) (sym c.inform.ensures.same) in
    let history = history_known desk c.inform.new.reader.known c.stands.ensures.standing knows in
    IfOk-weaker c.replies_page.result _ _
    (λ replies h.
    subst (λ (x : Setup). AreKnownReplies x c.args.member c.inform.new.reader.known (page c.args.from c.args.most) (texts replies.items)) of_setup
    (subst (λ (l : List Entry). AreRepliesWithoutTrace desk.setup (events_of l) c.args.member (page c.args.from c.args.most) (texts replies.items)) (sym history) h))
    c.replies_page.ensures.replies

pub returns-clause-news : goal.returns-clause-news
returns-clause-news g c =
    let desk = c.inform.new.self in
    let held = c.deref_mut-held.result.now in
    let of_setup : desk.setup ≡ g.V.Venue.setup = ap (λ (d : DeskState). d.setup) c.inform.ensures.same ∙ held.of_setup in
    let knows : c.inform.new.reader.known ≡ desk.published = c.inform.ensures.known ∙ ap (λ (d : DeskState). d.published) (sym c.inform.ensures.same) in
    record {
      replies =
          c.reply_count-replies.ensures.count
          ∙ ap (λ (rows : List (List ℕ)). length rows) (row_known g.V.Venue.setup desk c.inform.new.reader.known c.args.member c.stands.ensures.standing of_setup knows c.reply_count-replies.ensures.range);
      few = c.reply_count-replies.ensures.few;
      ended = c.ended-ended.ensures ∙ ap (λ (m : Market). is_over m) (market_known g.V.Venue.setup desk c.inform.new.reader.known c.stands.ensures.standing of_setup knows);
    }

pub returns-clause-memory : goal.returns-clause-memory
returns-clause-memory g c =
    let desk = c.inform.new.self in
    let held = c.deref_mut-held.result.now in
    subst (λ (rows : List (List ℕ)). IfErr c.replies_page.result (λ _. 0 < length (page c.args.from c.args.most rows)))
    (row_known g.V.Venue.setup desk c.inform.new.reader.known c.args.member c.stands.ensures.standing (ap (λ (d : DeskState). d.setup) c.inform.ensures.same ∙ held.of_setup)
    (c.inform.ensures.known ∙ ap (λ (d : DeskState). d.published) (sym c.inform.ensures.same)) c.replies_page.ensures.range)
    c.replies_page.ensures.memory

pub returns-clause-whole : goal.returns-clause-whole
returns-clause-whole g c =
    let desk = c.inform.new.self in
    let held = c.deref_mut-held.result.now in
    knows_whole g.V.Venue.setup desk c.inform.new.reader.known c.stands.ensures.standing (ap (λ (d : DeskState). d.setup) c.inform.ensures.same ∙ held.of_setup)
    (c.inform.ensures.known ∙ ap (λ (d : DeskState). d.published) (sym c.inform.ensures.same))
