use Rattle.std.proofs.Common.{◌≡◌, ◌+◌, ◌++◌, ◌∷◌, [], suc, List, drop, sym, ap, ◌∙◌, append_assoc, arith}
use Rattle.std.specs.Vec.{vec_len}
use Rattle.hx_itch.specs.declared.message.Feed.{Feed}
use Rattle.hx_replay.specs.declared.unwritten.Mark.{Mark}
use Rattle.hx_replay.specs.declared.unwritten.Marked.TheVariants.{OfFeed}
use Rattle.hx_replay.specs.Marks.{feed_marks}
use Rattle.hx_replay.proofs.Marked.{first_left}
use Rattle.hx_replay.proofs.unwritten.mark_feed.Goals as goal

pub loop-preserved : goal.loop-preserved
loop-preserved c =
    let feed = c.args.feed.now in
    let n = c.loop.number in
    let old : List Mark = c.loop.marks.items in
    let first = first_left feed c.loop.index c.loop-test.true in
    let next : suc c.loop.index ≡ c.loop.index + 1 = omega arith in
    let is : drop c.loop.index feed ≡ first.0 ∷ drop (c.loop.index + 1) feed = first.1 ∙ ap (λ i. first.0 ∷ drop i feed) next in
    record {
      len = c.push_reserved.ensures.len ∙ (let z : vec_len c.loop.marks + 1 ≡ vec_len c.args.marks.now + (c.loop.index + 1) = omega (arith, c.loop.invariant.len) in z);
      capacity = c.push_reserved.ensures.capacity ∙ c.loop.invariant.capacity;
      number = ap (λ i. i + 1) c.loop.invariant.number ∙ (let z : (c.args.before + c.loop.index) + 1 ≡ c.args.before + (c.loop.index + 1) = omega arith in z);
      marks =
          ap (λ (l : List Mark). l ++ feed_marks (n + 1) (drop (c.loop.index + 1) feed)) (c.push_reserved.ensures.items ∙ ap (λ (m : Mark). old ++ m ∷ []) c.of_feed.ensures)
          ∙ append_assoc old (OfFeed (n + 1) ∷ []) (feed_marks (n + 1) (drop (c.loop.index + 1) feed))
          ∙ ap (λ (fs : List Feed). old ++ feed_marks n fs) (sym is)
          ∙ c.loop.invariant.marks;
    }
