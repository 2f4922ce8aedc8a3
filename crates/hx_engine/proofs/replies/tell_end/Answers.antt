use Rattle.std.proofs.Common.{◌≡◌, ◌∙◌, ap, sym}
use Rattle.hx_market.specs.Markets.{Market}
use Rattle.hx_desk.specs.Desks.{DeskState, is_over}
use Rattle.hx_engine.proofs.PassLaws.{knows_whole, market_known}
use Rattle.hx_engine.proofs.replies.tell_end.Goals as goal

pub returns-clause-over : goal.returns-clause-over
returns-clause-over g c =
    let desk = c.inform.new.self in
    let of_setup : desk.setup ≡ g.V.Venue.setup = ap (λ (d : DeskState). d.setup) c.inform.ensures.same ∙ c.args.held.now.of_setup in
    let knows : c.inform.new.reader.known ≡ desk.published = c.inform.ensures.known ∙ ap (λ (d : DeskState). d.published) (sym c.inform.ensures.same) in
    c.ended.ensures ∙ ap (λ (m : Market). is_over m) (market_known g.V.Venue.setup desk c.inform.new.reader.known c.stands.ensures.standing of_setup knows)

pub returns-clause-whole : goal.returns-clause-whole
returns-clause-whole g c =
    let desk = c.inform.new.self in
    knows_whole g.V.Venue.setup desk c.inform.new.reader.known c.stands.ensures.standing (ap (λ (d : DeskState). d.setup) c.inform.ensures.same ∙ c.args.held.now.of_setup)
    (c.inform.ensures.known ∙ ap (λ (d : DeskState). d.published) (sym c.inform.ensures.same))
