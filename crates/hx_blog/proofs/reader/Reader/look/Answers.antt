use Rattle.std.proofs.Common.{ap, sym, ◌∙◌, arith}
use Rattle.hx_blog.specs.Ends.{got}
use Rattle.hx_blog.proofs.Feeds.{feed-prefix, same_front}
use Rattle.hx_blog.proofs.Settled.{is_reading, room_is}
use Rattle.hx_blog.proofs.reader.Reader.look.Goals as goal
use Rattle.hx_units.proofs.Prefixes.{prefix_length}

pub invariant_of-self : goal.invariant_of-self
invariant_of-self g c =
    let i = c.self.invariant in
    let e = c.load_count-self-inside.ensures in
    let me = e.loaded in
    let longer = prefix_length _ _ (feed-prefix _ _ e.known) in
    let room = ap (λ m. m.0.room) me in
    record {
      reading = is_reading _ _ _ _ _ me;
      words = omega (arith, i.words, ap (λ z. z.words) e.log, room);
      limit = omega (arith, i.limit, room);
      has_read = i.has_read ∙ sym (ap (λ m. m.0.read) me);
      in_order = omega (arith, i.in_order, i.known, e.count, longer);
      known = omega (arith, i.known, e.count, longer);
      room = omega (arith, e.within, room);
    }

pub returns-clause-got : goal.returns-clause-got
returns-clause-got g c = let i = c.self.invariant in let e = c.load_count-self-inside.ensures in same_front c.self.inside.read _ _ e.known (omega (arith, i.in_order, i.known)) ∙ ap got c.self.view_is

pub returns-clause-room : goal.returns-clause-room
returns-clause-room g c =
    let words = sym (ap (λ l. l.words) c.requires) ∙ sym (ap (λ r. r.log.words) c.self.view_is) ∙ c.self.invariant.words in
    omega (arith, room_is _ _ words, c.load_count-self-inside.ensures.within)
