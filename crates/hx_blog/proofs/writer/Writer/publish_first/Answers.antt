use Rattle.std.proofs.Common.{◌≡◌, ◌++◌, length, ap, sym, ◌∙◌, arith, length-append}
use Rattle.hx_blog.specs.Feed.{feed}
use Rattle.hx_blog.proofs.Feeds.{feed-append}
use Rattle.hx_blog.proofs.Settled.{is_writing}
use Rattle.hx_blog.proofs.writer.Writer.publish_first.Goals as goal

pub invariant_of-self : goal.invariant_of-self
invariant_of-self g c =
    let i = c.self.invariant in
    let e = c.store_count.ensures in
    let me = e.published in
    let old = c.self.inside.seat.me.0 in
    let entries = g.N.NamesEntries.entries in
    let left = g.N.NamesEntries.left in
    let staged : feed entries ++ left ≡ old.staged = c.requires.named ∙ sym (ap (λ w. w.staged) c.self.view_is) in
    let known : feed c.store_count.new.seat.me.0.known ≡ feed old.known ++ feed entries = ap (λ m. feed m.0.known) me ∙ feed-append old.known entries in
    let count = ap length known ∙ length-append (feed old.known) (feed entries) in
    let all = sym (ap length staged) ∙ length-append (feed entries) left in
    let room = ap (λ m. m.0.room) me in
    record {
      writing = is_writing _ _ _ _ me;
      words = omega (arith, i.words, ap (λ z. z.words) e.log, room);
      limit = omega (arith, i.limit, room);
      published = omega (arith, i.published, c.requires.count, count);
      above = omega (arith, i.above, all, c.requires.count, ap (λ m. length m.0.staged) me);
      room = omega (arith, i.room, i.above, all, c.requires.count, room);
    }
