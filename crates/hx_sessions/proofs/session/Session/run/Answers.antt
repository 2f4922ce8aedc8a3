use Rattle.std.proofs.Common.{◌≡◌, List, [], ap, sym, ◌∙◌, subst}
use Rattle.hx_desk.specs.Known.{known_replies}
use Rattle.hx_sessions.specs.Deliveries.{Delivery}
use Rattle.hx_sessions.specs.Asked.{CarriesOn}
use Rattle.hx_sessions.specs.Served.{Side, Converses}
use Rattle.hx_sessions.proofs.Courses.{dismissed, opened}
use Rattle.hx_sessions.specs.Frames.{IsNextOf}
use Rattle.hx_sessions.proofs.Logging.{opens_within}
use Rattle.hx_sessions.proofs.session.Session.run.Goals as goal

pub returns-in-Err : goal.returns-in-Err
returns-in-Err g c =
    dismissed g.V.Venue.setup c.args.logins.now.setup.now c.args.logins.now.copies.now _ _ _ (g.W.Write.contents c.admit-begun.new.line.output) _ _ _ _ c.in-Err.result (c.admit-begun.ensures.log ∙ sym c.args.part.belongs) c.admit-begun.ensures.known c.in-Err.ensures.err c.flush.ensures.bytes

pub returns-in-Ok : goal.returns-in-Ok
returns-in-Ok g c =
    let made = c.converse-inbox.result in
    let setup = g.V.Venue.setup in
    let left = g.R.Read.remaining c.admit-begun.new.line.input in
    let out = g.W.Write.contents c.admit-begun.new.line.output in
    let pass = c.args.part.pass in
    let next : c.new.result.next ≡ c.in-Ok.begun.first = ap (λ (d : Delivery). d.next) c.new.ensures in
    let new : Side = record { input = g.R.Read.remaining made.0.input; output = g.W.Write.contents made.1.output; pass = made.0.sender.pass; reader = made.1.reader } in
    let old : Side = record { input = left; output = out; pass = pass; reader = c.admit-begun.new.reader } in
    opened setup c.args.logins.now.setup.now c.args.logins.now.copies.now _ left (g.W.Write.contents c.args.part.output) out pass c.args.part.reader c.admit-begun.new.reader c.in-Ok.begun c.new.result.next new (g.W.Write.contents c.flush-in-Ok.new.self) made.2
    (c.converse-inbox.ensures.log ∙ sym c.args.part.belongs) c.admit-begun.ensures.known (subst (λ b. CarriesOn b pass made.0.sender.pass) c.may_send.ensures c.converse-inbox.ensures.pass) c.in-Ok.ensures.ok next c.converse-inbox.ensures.known
    (subst (λ m. Converses setup m c.new.result.next [] old new made.2) c.read_by-member.ensures c.converse-inbox.ensures.converses) c.flush-in-Ok.ensures.bytes

pub converse-inbox-requires-clause-next : goal.converse-inbox-requires-clause-next
converse-inbox-requires-clause-next g c =
    let a = c.in-Ok.ensures.ok in
    let begun = c.in-Ok.begun in
    let known = c.admit-begun.new.reader.known in
    let copies = c.args.logins.now.copies.now in
    let next : c.new.result.next ≡ begun.first = ap (λ (d : Delivery). d.next) c.new.ensures in
    subst (λ m. IsNextOf (known_replies g.V.Venue.setup m known) c.new.result.next) (sym c.read_by-member.ensures)
    (subst (IsNextOf (known_replies g.V.Venue.setup (_) known)) (sym next) (opens_within g.V.Venue.setup c.args.logins.now.setup.now copies a.login known begun a.opens))
