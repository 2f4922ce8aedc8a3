use Rattle.std.proofs.Common.{◌+◌, ◌-◌, ◌*◌, length, get_or, ap, ◌∙◌, subst, arith}
use Rattle.std.specs.List.{All}
use Rattle.hx_blog.specs.Packed.{IsMessage, words_of}
use Rattle.hx_blog.specs.Feed.{feed}
use Rattle.hx_blog.specs.Views.{SeatState}
use Rattle.hx_blog.proofs.Packing.{message_loaded}
use Rattle.hx_blog.proofs.ReaderPass.{loads_word}
use Rattle.hx_blog.proofs.loads.load_message.Goals as goal

pub load-requires : goal.load-requires
load-requires g c =
    let r = c.requires in
    let s = c.load_front-words.ensures in
    let me = s.same.1 ∙ r.reading in (
      s.same.0 ∙ r.log,
      omega (arith, r.sized, r.room.0),
      loads_word _ _ _ _ _ (ap (λ m. m.0.gone) me) (ap (λ m. m.0.writes) me) (omega arith) (omega (arith, r.known, ap (λ m. length (feed m.0.known)) s.same.1)),
    )

pub returns-clause-message : goal.returns-clause-message
returns-clause-message g c =
    let s = c.load_front-words.ensures in
    let word = c.load.ensures.2.1 in
    let known = feed c.args.seat.now.me.0.known in
    message_loaded known c.args.index c.load_front-words.result c.load.result _ c.requires.known (subst (λ (m : SeatState g.row.E.Denot). All IsMessage (feed m.0.known)) s.same.1 word.1) s.length s.words
    (word.0 ∙ ap (λ (m : SeatState g.row.E.Denot). get_or (words_of (feed m.0.known)) (6 * c.args.index + 6 - 1) 0) s.same.1)
    c.unpack.ensures
