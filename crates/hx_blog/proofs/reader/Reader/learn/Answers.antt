use Rattle.std.proofs.Common.{ap, sym, ◌∙◌, arith}
use Rattle.hx_blog.specs.Ends.{got}
use Rattle.hx_blog.proofs.Feeds.{feed-prefix, same_front}
use Rattle.hx_blog.proofs.Settled.{is_reading}
use Rattle.hx_blog.proofs.reader.Reader.learn.Goals as goal
use Rattle.hx_units.proofs.Prefixes.{prefix_length}

pub invariant_of-self : goal.invariant_of-self
invariant_of-self g c =
    let i = c.self.invariant in
    let e = c.tell_reader.ensures in
    let me = e.same in
    let longer = prefix_length _ _ (feed-prefix _ _ e.known) in
    let room = ap (λ m. m.0.room) me in
    record {
      reading = is_reading _ _ _ _ _ me;
      words = omega (arith, i.words, ap (λ z. z.words) e.log, room);
      limit = omega (arith, i.limit, room);
      has_read = i.has_read ∙ sym (ap (λ m. m.0.read) me);
      in_order = omega (arith, i.in_order, i.known, longer);
      known = omega (arith, i.known, longer);
      room = omega (arith, i.room, room);
    }

pub returns-clause-got : goal.returns-clause-got
returns-clause-got g c = let i = c.self.invariant in let e = c.tell_reader.ensures in same_front c.self.inside.read _ _ e.known (omega (arith, i.in_order, i.known)) ∙ ap got c.self.view_is
