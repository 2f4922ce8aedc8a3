use Rattle.std.proofs.Common.{◌≡◌, ◌-◌, ◌<◌, ◌≤◌, ℕ, List, [], length, take, drop, Some, true, false, ap, ◌∙◌, subst, inl, inr, refl, sym, arith, length-take}
use Rattle.std.proofs.lemmas.Grind.{common_steps}
use Rattle.std.proofs.lemmas.List.{length-map}
use Rattle.std.proofs.lemmas.Bool.Decides.{nat_tests}
use Rattle.std.specs.Prelude.{IfOk}
use Rattle.std.specs.Io.KnownBytes.{Appends}
use Rattle.hx_units.specs.Fields.{texts}
use Rattle.hx_desk.specs.Rows.{page as part}
use Rattle.hx_desk.specs.Known.{known_replies}
use Rattle.hx_engine.specs.Exchanges.{AreKnownReplies}
use Rattle.hx_units.specs.Writing.{Writes}
use Rattle.hx_sessions.specs.Frames.{day_over, Sends, Sent}
use Rattle.hx_sessions.proofs.Going.{sends_over, sends_open, sent_none, sent_none_of, still_there, sent_more, sent_some, page_none, page_short, page_ahead, fill_cut, batch_sent, until_sent}
use Rattle.hx_sessions.proofs.outbound.Outbox.round.Goals as goal
use Rattle.hx_sessions.proofs.outbound.Outbox.round.Goals.{then-ended-2, else-ended-2}

pub returns-in_default-clause-err : goal.returns-in_default-clause-err
returns-in_default-clause-err g c =
    let d = c.args.self.now.delivery in
    let out = g.W.Write.contents c.args.self.now.output in
    let replies = known_replies g.V.Venue.setup c.args.member c.news_page-page.new.reader.known in
    let most = still_there g.V.Venue.setup c.args.member d.next c.args.self.now.reader.known c.news_page-page.new.reader.known c.news_page-page.ensures.reader.known c.requires.next.1 in
    (_, inl (sent_none d.next replies d out refl c.requires.live c.requires.next.0 most, c.requires.live))

pub returns-then-left-eq0-clause-err : goal.returns-then-left-eq0-clause-err
returns-then-left-eq0-clause-err g c =
    let d = c.args.self.now.delivery in
    let out = g.W.Write.contents c.args.self.now.output in
    let replies = known_replies g.V.Venue.setup c.args.member c.news_page-page.new.reader.known in
    let most = still_there g.V.Venue.setup c.args.member d.next c.args.self.now.reader.known c.news_page-page.new.reader.known c.news_page-page.ensures.reader.known c.requires.next.1 in
    (_, inl (sent_none d.next replies d out refl c.requires.live c.requires.next.0 most, c.requires.live))

pub returns-in-Ok-send-clause-ok : goal.returns-in-Ok-send-clause-ok
returns-in-Ok-send-clause-ok g c =
    let d = c.args.self.now.delivery in
    let out = g.W.Write.contents c.args.self.now.output in
    let replies = known_replies g.V.Venue.setup c.args.member c.news_page-page.new.reader.known in
    let most = still_there g.V.Venue.setup c.args.member d.next c.args.self.now.reader.known c.news_page-page.new.reader.known c.news_page-page.ensures.reader.known c.requires.next.1 in
    let page : texts c.in-Ok.rows.items ≡ take 64 (drop (d.next - 1) replies) = (subst (λ r. IfOk r (λ x. AreKnownReplies g.V.Venue.setup c.args.member c.news_page-page.new.reader.known (part c.next-from.result 64) (texts x.items))) c.in-Ok.is c.news_page-page.ensures.replies).exact ∙ ap (λ n. take 64 (drop (n - 1) replies)) c.next-from.ensures in
    let given = texts c.deref.result.now in
    let empty : c.in-Ok.rows.items ≡ [] = grind (arith, common_steps) in
    let nothing : given ≡ [] = ap texts (c.deref.ensures.value ∙ empty) in
    let rows : given ≡ drop (d.next - 1) replies = page_none (drop (d.next - 1) replies) given (ap texts c.deref.ensures.value ∙ page) nothing in
    let none = sent_none_of d.next replies given d out refl c.requires.live c.requires.next.0 most rows in
    let e = c.in-Ok-send.ensures.ok in
    let sends : Sends d c.send.new.delivery given false e.0 = subst (λ b. Sends d c.send.new.delivery given b e.0) c.if-ended.false e.1 in
    let now = g.W.Write.contents c.send.new.output in (
      sends_open d c.send.new.delivery given e.0 sends,
      [],
      subst (λ l. Sent d.next replies l c.send.new.delivery out now) (ap (drop 1) nothing) (sent_more d.next replies given d c.send.new.delivery c.news_page-page.result.0.ended e.0 _ _ _ none c.requires.live e.1 e.2),
      λ _. refl,
    )

pub returns-then-ended-clause-err : goal.returns-then-ended-clause-err
returns-then-ended-clause-err g c =
    let d = c.args.self.now.delivery in
    let out = g.W.Write.contents c.args.self.now.output in
    let replies = known_replies g.V.Venue.setup c.args.member c.news_page-page.new.reader.known in
    let most = still_there g.V.Venue.setup c.args.member d.next c.args.self.now.reader.known c.news_page-page.new.reader.known c.news_page-page.ensures.reader.known c.requires.next.1 in
    let page : texts c.in-Ok.rows.items ≡ take 64 (drop (d.next - 1) replies) = (subst (λ r. IfOk r (λ x. AreKnownReplies g.V.Venue.setup c.args.member c.news_page-page.new.reader.known (part c.next-from.result 64) (texts x.items))) c.in-Ok.is c.news_page-page.ensures.replies).exact ∙ ap (λ n. take 64 (drop (n - 1) replies)) c.next-from.ensures in
    let given = texts c.deref.result.now in
    let empty : c.in-Ok.rows.items ≡ [] = grind (arith, common_steps) in
    let nothing : given ≡ [] = ap texts (c.deref.ensures.value ∙ empty) in
    let rows : given ≡ drop (d.next - 1) replies = page_none (drop (d.next - 1) replies) given (ap texts c.deref.ensures.value ∙ page) nothing in
    let none = sent_none_of d.next replies given d out refl c.requires.live c.requires.next.0 most rows in
    let e = c.in-Ok-send.ensures.ok in
    let now = g.W.Write.contents c.send.new.output in
    let ends : Sends d c.send.new.delivery [] true e.0 = subst (λ l. Sends d c.send.new.delivery l true e.0) nothing (subst (λ b. Sends d c.send.new.delivery given b e.0) c.if-ended.true e.1) in
    let past = sym c.news_page-page.ensures.news.ended ∙ c.if-ended.true in
    (refl, ends.2, past, subst (λ l. Sent d.next replies l c.send.new.delivery out now) (ap (drop 1) nothing) (sent_more d.next replies given d c.send.new.delivery c.news_page-page.result.0.ended e.0 _ _ _ none c.requires.live e.1 e.2))

pub returns-in-Err-clause-err : goal.returns-in-Err-clause-err
returns-in-Err-clause-err g c =
    let d = c.args.self.now.delivery in
    let out = g.W.Write.contents c.args.self.now.output in
    let replies = known_replies g.V.Venue.setup c.args.member c.news_page-page.new.reader.known in
    let most = still_there g.V.Venue.setup c.args.member d.next c.args.self.now.reader.known c.news_page-page.new.reader.known c.news_page-page.ensures.reader.known c.requires.next.1 in
    let page : texts c.in-Ok.rows.items ≡ take 64 (drop (d.next - 1) replies) = (subst (λ r. IfOk r (λ x. AreKnownReplies g.V.Venue.setup c.args.member c.news_page-page.new.reader.known (part c.next-from.result 64) (texts x.items))) c.in-Ok.is c.news_page-page.ensures.replies).exact ∙ ap (λ n. take 64 (drop (n - 1) replies)) c.next-from.ensures in
    let given = texts c.deref.result.now in
    let empty : c.in-Ok.rows.items ≡ [] = grind (arith, common_steps) in
    let nothing : given ≡ [] = ap texts (c.deref.ensures.value ∙ empty) in
    let rows : given ≡ drop (d.next - 1) replies = page_none (drop (d.next - 1) replies) given (ap texts c.deref.ensures.value ∙ page) nothing in
    let none = sent_none_of d.next replies given d out refl c.requires.live c.requires.next.0 most rows in
    let e = c.in-Err.ensures.err in
    let past = λ (o : c.send.new.delivery.over ≡ true). sym c.news_page-page.ensures.news.ended ∙ (sends_over d c.send.new.delivery given c.news_page-page.result.0.ended e.0 e.1 o) in
    (drop 1 given, inr (refl, past, sent_some d.next replies given d c.send.new.delivery c.news_page-page.result.0.ended e.0 _ _ _ none c.requires.live e.1 e.2))

pub returns-in-Err-write_whole-clause-err : goal.returns-in-Err-write_whole-clause-err
returns-in-Err-write_whole-clause-err g c =
    let d = c.args.self.now.delivery in
    let replies = known_replies g.V.Venue.setup c.args.member c.news_page-page.new.reader.known in
    let most = still_there g.V.Venue.setup c.args.member d.next c.args.self.now.reader.known c.news_page-page.new.reader.known c.news_page-page.ensures.reader.known c.requires.next.1 in
    let page = ap texts c.deref-2.ensures.value ∙ ((subst (λ r. IfOk r (λ x. AreKnownReplies g.V.Venue.setup c.args.member c.news_page-page.new.reader.known (part c.next-from.result 64) (texts x.items))) c.in-Ok.is c.news_page-page.ensures.replies).exact ∙ ap (λ n. take 64 (drop (n - 1) replies)) c.next-from.ensures) in
    let ahead = page_ahead replies (texts c.deref-2.result.now) d c.new-batch.result.items c.requires.live c.requires.next.0 most page c.new-batch.ensures in
    let f = c.fill-filled in
    let e = c.in-Err-write_whole.ensures.err in
    let cut = subst (λ l. Writes (g.W.Write.contents c.args.self.now.output) (g.W.Write.contents c.write_whole.new.writer) l e.0) c.as_slice.ensures.value e.1 in
    fill_cut f.result (day_over g.V.Venue.setup c.news_page-page.new.reader.known) d.next replies (texts c.deref-2.result.now) (drop 64 (drop (d.next - 1) replies)) d f.new.delivery c.new-batch.result.items f.new.batch.items e.0 _ _ f.ensures.live f.ensures.ok f.ensures.err ahead cut

pub returns-in-Ok-filled-clause-ok : goal.returns-in-Ok-filled-clause-ok
returns-in-Ok-filled-clause-ok g c =
    let d = c.args.self.now.delivery in
    let replies = known_replies g.V.Venue.setup c.args.member c.news_page-page.new.reader.known in
    let most = still_there g.V.Venue.setup c.args.member d.next c.args.self.now.reader.known c.news_page-page.new.reader.known c.news_page-page.ensures.reader.known c.requires.next.1 in
    let page = ap texts c.deref-2.ensures.value ∙ ((subst (λ r. IfOk r (λ x. AreKnownReplies g.V.Venue.setup c.args.member c.news_page-page.new.reader.known (part c.next-from.result 64) (texts x.items))) c.in-Ok.is c.news_page-page.ensures.replies).exact ∙ ap (λ n. take 64 (drop (n - 1) replies)) c.next-from.ensures) in
    let ahead = page_ahead replies (texts c.deref-2.result.now) d c.new-batch.result.items c.requires.live c.requires.next.0 most page c.new-batch.ensures in
    let f = c.fill-filled in
    let later = drop 64 (drop (d.next - 1) replies) in
    let ok = c.in-Ok-filled.ensures in
    let all = subst (Appends (g.W.Write.contents c.args.self.now.output) (g.W.Write.contents c.write_whole.new.writer)) c.as_slice.ensures.value c.in-Ok-write_whole.ensures.ok in (
      ok.live,
      later,
      batch_sent d.next replies later f.new.delivery f.new.batch.items _ _ (ok.ok d.next replies later (Some []) ahead) all,
      elim c.if-ended-2.branch [
        | then-ended-2 w ↦ λ e. absurd (cc (w.result-is, e))
        | else-ended-2 w ↦ λ e.
            let bound : length (texts c.deref-2.result.now) ≤ 64 = omega (arith, ap (λ (l : List (List ℕ)). length l) page, length-take 64 (drop (d.next - 1) replies)) in
            let count : length (texts c.deref-2.result.now) ≡ length c.in-Ok.rows.items = length-map c.deref-2.result.now _ ∙ ap length c.deref-2.ensures.value in
            let test = sym w.result-is ∙ e in
            let long : w.len.result ≡ length c.in-Ok.rows.items = omega arith in
            let few : length (texts c.deref-2.result.now) < 64 = grind (arith, nat_tests, test, long, bound, count) in
            page_short (drop (d.next - 1) replies) (texts c.deref-2.result.now) page few
      ],
    )

pub returns-clause-err : goal.returns-clause-err
returns-clause-err g c =
    let d = c.args.self.now.delivery in
    let replies = known_replies g.V.Venue.setup c.args.member c.news_page-page.new.reader.known in
    let most = still_there g.V.Venue.setup c.args.member d.next c.args.self.now.reader.known c.news_page-page.new.reader.known c.news_page-page.ensures.reader.known c.requires.next.1 in
    let page = ap texts c.deref-2.ensures.value ∙ ((subst (λ r. IfOk r (λ x. AreKnownReplies g.V.Venue.setup c.args.member c.news_page-page.new.reader.known (part c.next-from.result 64) (texts x.items))) c.in-Ok.is c.news_page-page.ensures.replies).exact ∙ ap (λ n. take 64 (drop (n - 1) replies)) c.next-from.ensures) in
    let ahead = page_ahead replies (texts c.deref-2.result.now) d c.new-batch.result.items c.requires.live c.requires.next.0 most page c.new-batch.ensures in
    let f = c.fill-filled in
    let past = day_over g.V.Venue.setup c.news_page-page.new.reader.known in
    let all = subst (Appends (g.W.Write.contents c.args.self.now.output) (g.W.Write.contents c.write_whole.new.writer)) c.as_slice.ensures.value c.in-Ok-write_whole.ensures.ok in
    until_sent past d.next replies f.new.delivery f.new.batch.items _ _ c.in-Err-filled.stop (c.in-Err-filled.ensures.err past d.next replies (drop 64 (drop (d.next - 1) replies)) (Some []) ahead) all
