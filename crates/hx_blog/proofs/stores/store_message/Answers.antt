use Rattle.std.proofs.Common.{◌≡◌, ◌≤◌, [], ◌∷◌, ◌++◌, length, take, get_or, ap, sym, ◌∙◌, arith, length-take-le}
use Rattle.std.proofs.lemmas.List.{take_more}
use Rattle.hx_blog.specs.Packed.{packed}
use Rattle.hx_blog.specs.Feed.{feed}
use Rattle.hx_blog.specs.Views.{SeatState, writing}
use Rattle.hx_blog.proofs.Feeds.{first_five, all_of_six}
use Rattle.hx_blog.proofs.WriterPass.{stores_word, stores_last_word}
use Rattle.hx_blog.proofs.stores.store_message.Goals as goal

pub overflow_add-first : goal.overflow_add-first
overflow_add-first g c = omega (arith, c.requires.room, c.requires.sized, c.loop-k-test.true)

pub overflow_add-first-2 : goal.overflow_add-first-2
overflow_add-first-2 g c = omega (arith, c.requires.room, c.requires.sized)

pub store-requires : goal.store-requires
store-requires g c =
    let i = c.loop-k.invariant in
    let r = c.requires in
    let me = i.1 in
    let within : c.loop-k.k ≤ length c.args.words.now = omega (arith, c.told-words, c.loop-k-test.true) in
    let begun : length c.loop-k.seat.me.0.begun ≡ c.loop-k.k = ap (λ m. length m.0.begun) me ∙ length-take-le c.loop-k.k c.args.words.now within in (
      i.0 ∙ r.log,
      omega (arith, r.room.0, c.loop-k-test.true),
      stores_word _ _ _ _ _ _ (ap (λ m. m.0.gone) me) (ap (λ m. m.0.writes) me) (omega (arith, r.after, begun, ap (λ m. length (feed m.0.known)) me, ap (λ m. length m.0.staged) me))
          (omega (arith, r.room.0, r.sized, c.loop-k-test.true)),
    )

pub loop-k-preserved : goal.loop-k-preserved
loop-k-preserved g c =
    let i = c.loop-k.invariant in
    let s = c.store.ensures in
    let word = get_or c.args.words.now c.loop-k.k 0 in
    let old = c.args.seat.now.me.0 in (
      s.0 ∙ i.0,
      s.2 ∙ (ap (λ (m : SeatState g.row.E.Denot). (record m.0 { begun = m.0.begun ++ word ∷ [] }, m.1)) i.1
          ∙ ap (λ ws. (writing old.room old.known old.staged ws, [])) (sym (take_more c.args.words.now c.loop-k.k 0 (omega (arith, c.told-words, c.loop-k-test.true))))),
    )

pub store-requires-2 : goal.store-requires-2
store-requires-2 g c =
    let i = c.loop-k.invariant in
    let r = c.requires in
    let me = i.1 in
    let five : c.loop-k.k ≡ 5 = omega (arith, c.loop-k.auto.k-end, c.loop-k-test.false) in
    let message = g.N.NamesMessage.message in
    let begun : c.loop-k.seat.me.0.begun ≡ take 5 (packed message) = ap (λ m. m.0.begun) me ∙ (λ q. take (five q) (r.words q)) in
    let long : length c.loop-k.seat.me.0.begun ≡ 5 = ap length begun ∙ first_five message in (
      i.0 ∙ r.log,
      r.room.0,
      stores_last_word _ _ _ _ message _ _ (ap (λ m. m.0.gone) me) (ap (λ m. m.0.writes) me) (omega (arith, r.after, long, ap (λ m. length (feed m.0.known)) me, ap (λ m. length m.0.staged) me))
          (omega (arith, r.room.0, r.sized))
          r.message
          ((λ q. begun q ++ get_or (r.words q) 5 0 ∷ []) ∙ all_of_six message),
    )
