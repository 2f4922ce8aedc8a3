use Rattle.std.proofs.Common.{◌≡◌, [], ap, sym, ◌∙◌, subst, Ok, Err}
use mathlib.Core.List.{IsPrefix}
use Rattle.hx_blog.specs.Feed.{Entries}
use Rattle.hx_blog.specs.Ends.{ReceiptState}
use Rattle.hx_desk.specs.declared.entry.Entry.{Entry}
use Rattle.hx_engine.specs.Passes.{PassState}
use Rattle.hx_sessions.specs.declared.ending.Ended.TheVariants as ended
use Rattle.hx_desk.specs.Known.{known_replies}
use Rattle.hx_sessions.specs.declared.ending.Stop.{Stop}
use Rattle.hx_sessions.specs.Asked.{CarriesOn}
use Rattle.hx_sessions.specs.Frames.{day_over}
use Rattle.hx_sessions.specs.Workers.{SentUntil}
use Rattle.hx_sessions.specs.Served.{Side, Converses}
use Rattle.hx_sessions.proofs.Courses.{converses, converses_then, after_all, after_stop, logs_out}
use Rattle.hx_sessions.proofs.Going.{sent_bounds}
use Rattle.hx_sessions.proofs.session.converse.Goals as goal

pub returns-in-Err-clause-converses : goal.returns-in-Err-clause-converses
returns-in-Err-clause-converses g c =
    converses g.V.Venue.setup c.args.trader.now.member c.args.outbox.delivery.next _ _ c.work-inbox.result.2.delivery c.work-inbox.result.1 c.work-inbox.result.3 (Err c.in-Err.fault) c.work-inbox.ensures.received c.work-inbox.ensures.sent (sym c.both.ensures ∙ c.in-Err.is) (λ e. absurd (cc e))

pub returns-in-Ok-clause-converses : goal.returns-in-Ok-clause-converses
returns-in-Ok-clause-converses g c =
    let w = c.work-inbox.result in
    let f = c.finish-outbox.result in
    let known = w.2.reader.known in
    let same = c.receipt-receipt.ensures.same in
    let setup = g.V.Venue.setup in
    let m = c.args.trader.now.member in
    let first = c.args.outbox.delivery.next in
    let old : Side = record { input = g.R.Read.remaining c.args.inbox.input; output = g.W.Write.contents c.args.outbox.output; pass = c.args.inbox.sender.pass; reader = c.args.outbox.reader } in
    let left = g.R.Read.remaining w.0.input in
    let middle = g.W.Write.contents w.2.output in
    let out = g.W.Write.contents f.0.output in
    let new : Side = record { input = left; output = out; pass = w.0.sender.pass; reader = f.0.reader } in
    let gives = λ (s : Stop). SentUntil (day_over setup f.0.reader.known) w.2.delivery.next (known_replies setup m f.0.reader.known) f.0.delivery middle out s in
    let is : c.both.result ≡ Ok ended.Logout = c.in-Ok-Logout.is ∙ ap Ok c.in-Ok-Logout.field-0-is in
    let published_end : IsPrefix w.0.sender.pass.known f.0.reader.known = subst (λ (l : Entries Entry). IsPrefix l f.0.reader.known) (ap (λ (x : ReceiptState Entry). x.known) c.receipt-receipt.ensures.receipt) c.finish-outbox.ensures.published_end in
    let ok = rw c.in-Ok.is at c.finish-outbox.ensures.ok in
    subst (λ (p : PassState). Converses setup m first [] old (record new { pass = p }) (Ok ended.Logout)) (sym same)
    (converses_then setup m first old new middle known w.2.delivery w.1 w.3 (Ok ended.Logout) c.work-inbox.ensures.received c.work-inbox.ensures.sent (sym c.both.ensures ∙ is) (λ e. published_end)
    (after_all setup m first known f.0.reader.known w.2.delivery f.0.delivery left old.output middle out c.finish-outbox.ensures.known ok.0 ok.1))

pub returns-in-Err-last-clause-converses : goal.returns-in-Err-last-clause-converses
returns-in-Err-last-clause-converses g c =
    let w = c.work-inbox.result in
    let f = c.finish-outbox.result in
    let known = w.2.reader.known in
    let same = c.receipt-receipt.ensures.same in
    let setup = g.V.Venue.setup in
    let m = c.args.trader.now.member in
    let first = c.args.outbox.delivery.next in
    let old : Side = record { input = g.R.Read.remaining c.args.inbox.input; output = g.W.Write.contents c.args.outbox.output; pass = c.args.inbox.sender.pass; reader = c.args.outbox.reader } in
    let left = g.R.Read.remaining w.0.input in
    let middle = g.W.Write.contents w.2.output in
    let out = g.W.Write.contents f.0.output in
    let new : Side = record { input = left; output = out; pass = w.0.sender.pass; reader = f.0.reader } in
    let gives = λ (s : Stop). SentUntil (day_over setup f.0.reader.known) w.2.delivery.next (known_replies setup m f.0.reader.known) f.0.delivery middle out s in
    let is : c.both.result ≡ Ok ended.Logout = c.in-Ok-Logout.is ∙ ap Ok c.in-Ok-Logout.field-0-is in
    let published_end : IsPrefix w.0.sender.pass.known f.0.reader.known = subst (λ (l : Entries Entry). IsPrefix l f.0.reader.known) (ap (λ (x : ReceiptState Entry). x.known) c.receipt-receipt.ensures.receipt) c.finish-outbox.ensures.published_end in
    let err : gives c.in-Err-last.stop = rw c.in-Err-last.is at c.finish-outbox.ensures.err in
    let r = c.both-in-Err-last.result in
    subst (λ (p : PassState). Converses setup m first [] old (record new { pass = p }) r) (sym same)
    (converses_then setup m first old new middle known w.2.delivery w.1 w.3 r c.work-inbox.ensures.received c.work-inbox.ensures.sent (sym c.both.ensures ∙ is) (λ e. published_end)
    (after_stop setup m first known f.0.reader.known w.2.delivery f.0.delivery left old.output middle out c.in-Err-last.stop r (sym c.both-in-Err-last.ensures) c.finish-outbox.ensures.known err))

pub finish-outbox-requires-clause-next : goal.finish-outbox-requires-clause-next
finish-outbox-requires-clause-next g c =
    let w = c.work-inbox.result in
    let got = c.work-inbox.ensures.received in
    let first = c.args.outbox.delivery.next in
    let replies = known_replies g.V.Venue.setup c.args.trader.now.member w.2.reader.known in
    let is : c.both.result ≡ Ok ended.Logout = c.in-Ok-Logout.is ∙ ap Ok c.in-Ok-Logout.field-0-is in
    let lo = logs_out (day_over g.V.Venue.setup w.2.reader.known) first replies got.packets got.done (g.R.Read.remaining w.0.input) w.2.delivery (g.W.Write.contents c.args.outbox.output) (g.W.Write.contents w.2.output) w.1 w.3 got.why c.work-inbox.ensures.sent (sym c.both.ensures ∙ is) in
    sent_bounds first replies lo.rest w.2.delivery (g.W.Write.contents c.args.outbox.output) (g.W.Write.contents w.2.output) lo.sent

pub returns-in-Ok-clause-pass : goal.returns-in-Ok-clause-pass
returns-in-Ok-clause-pass g c = subst (CarriesOn c.args.trader.now.may_send c.args.inbox.sender.pass) (sym c.receipt-receipt.ensures.same) c.work-inbox.ensures.pass

pub returns-in-Err-last-clause-pass : goal.returns-in-Err-last-clause-pass
returns-in-Err-last-clause-pass g c = subst (CarriesOn c.args.trader.now.may_send c.args.inbox.sender.pass) (sym c.receipt-receipt.ensures.same) c.work-inbox.ensures.pass
