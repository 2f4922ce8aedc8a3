use Rattle.std.proofs.Common.{◌≡◌, ℕ, ◌++◌, List, length, drop, sym, ap, ◌∙◌, subst, arith}
use Rattle.std.specs.Vec.{vec_len}
use Rattle.std.proofs.Math.Seq.{drop-append_seam}
use Rattle.hx_itch.specs.declared.message.Feed.{Feed}
use Rattle.hx_market.specs.Outputs.{Reply}
use Rattle.hx_market.specs.Steps.{step}
use Rattle.hx_replay.specs.declared.unwritten.Mark.{Mark}
use Rattle.hx_replay.specs.Marks.{lines_of, AreMarked, feed_marks, reply_marks, HaveRoomForTimes}
use Rattle.hx_replay.specs.Output.{feed_lines, reply_lines}
use Rattle.hx_replay.specs.Seen.{texts_of}
use Rattle.hx_replay.proofs.Marked.{marked_after, output_marked, texts_after, times_after}
use Rattle.hx_replay.proofs.unwritten.Unwritten.apply.Goals as goal

pub invariant_of-self-in-Ok : goal.invariant_of-self-in-Ok
invariant_of-self-in-Ok g c =
    let s = c.self.inside in
    let output = (step c.args.market.now.setup c.args.market.now.market c.args.event.now).output in
    let counts = c.args.counts.now in
    let feed : c.split_at.result.1.now ≡ output.feed =
    c.split_at.ensures.back ∙ ap (λ n. drop n c.deref.result.now) (c.len-feed_from.ensures ∙ (let z : vec_len s.output.feed ≡ length s.output.feed.items = omega (arith, s.output.feed.ok.0) in z)) ∙ ap (λ (l : List Feed). drop (length s.output.feed.items) l) (c.deref.ensures.value ∙ c.in_ok-apply.ensures.feed) ∙ drop-append_seam s.output.feed.items output.feed in
    let replies : c.split_at-2.result.1.now ≡ output.replies =
    c.split_at-2.ensures.back ∙ ap (λ n. drop n c.deref-2.result.now) (c.len-replies_from.ensures ∙ (let z : vec_len s.output.replies ≡ length s.output.replies.items = omega (arith, s.output.replies.ok.0) in z)) ∙ ap (λ (l : List Reply). drop (length s.output.replies.items) l) (c.deref-2.ensures.value ∙ c.in_ok-apply.ensures.replies) ∙ drop-append_seam s.output.replies.items output.replies in
    let more : List Mark = feed_marks c.args.before output.feed ++ reply_marks counts output.replies in
    let marks : ◌≡◌ {A = List Mark} c.mark_output.new.marks.items (s.marks.items ++ more) =
    c.in-Ok.ensures.marks
    ∙ ap (λ (fs : List Feed). s.marks.items ++ (feed_marks c.args.before fs ++ reply_marks counts c.split_at-2.result.1.now)) feed
    ∙ ap (λ (rs : List Reply). s.marks.items ++ (feed_marks c.args.before output.feed ++ reply_marks counts rs)) replies in (
      subst (λ (ms : List Mark). AreMarked ms c.apply.new.output.feed.items c.apply.new.output.replies.items) (sym marks)
          (subst (λ (fs : List Feed). AreMarked (s.marks.items ++ more) fs c.apply.new.output.replies.items) (sym c.in_ok-apply.ensures.feed)
          (subst (λ (rs : List Reply). AreMarked (s.marks.items ++ more) (s.output.feed.items ++ output.feed) rs) (sym c.in_ok-apply.ensures.replies)
          (marked_after s.marks.items more s.output.feed.items output.feed s.output.replies.items output.replies c.self.invariant.0 (output_marked c.args.before counts output.feed output.replies)))),
      subst HaveRoomForTimes (sym c.in_ok-apply.ensures.feed) (times_after s.output.feed.items output.feed c.self.invariant.1 c.in_ok-apply.ensures.times),
    )

pub returns-in-Ok-clause-output : goal.returns-in-Ok-clause-output
returns-in-Ok-clause-output g c =
    let s = c.self.inside in
    let output = (step c.args.market.now.setup c.args.market.now.market c.args.event.now).output in
    let counts = c.args.counts.now in
    let feed : c.split_at.result.1.now ≡ output.feed =
    c.split_at.ensures.back ∙ ap (λ n. drop n c.deref.result.now) (c.len-feed_from.ensures ∙ (let z : vec_len s.output.feed ≡ length s.output.feed.items = omega (arith, s.output.feed.ok.0) in z)) ∙ ap (λ (l : List Feed). drop (length s.output.feed.items) l) (c.deref.ensures.value ∙ c.in_ok-apply.ensures.feed) ∙ drop-append_seam s.output.feed.items output.feed in
    let replies : c.split_at-2.result.1.now ≡ output.replies =
    c.split_at-2.ensures.back ∙ ap (λ n. drop n c.deref-2.result.now) (c.len-replies_from.ensures ∙ (let z : vec_len s.output.replies ≡ length s.output.replies.items = omega (arith, s.output.replies.ok.0) in z)) ∙ ap (λ (l : List Reply). drop (length s.output.replies.items) l) (c.deref-2.ensures.value ∙ c.in_ok-apply.ensures.replies) ∙ drop-append_seam s.output.replies.items output.replies in
    let more : List Mark = feed_marks c.args.before output.feed ++ reply_marks counts output.replies in
    let marks : ◌≡◌ {A = List Mark} c.mark_output.new.marks.items (s.marks.items ++ more) =
    c.in-Ok.ensures.marks
    ∙ ap (λ (fs : List Feed). s.marks.items ++ (feed_marks c.args.before fs ++ reply_marks counts c.split_at-2.result.1.now)) feed
    ∙ ap (λ (rs : List Reply). s.marks.items ++ (feed_marks c.args.before output.feed ++ reply_marks counts rs)) replies in
    let new = c.apply.new.output in
    ap (λ (ms : List Mark). texts_of (lines_of ms new.feed.items new.replies.items)) marks
    ∙ ap (λ (fs : List Feed). texts_of (lines_of (s.marks.items ++ more) fs new.replies.items)) c.in_ok-apply.ensures.feed
    ∙ ap (λ (rs : List Reply). texts_of (lines_of (s.marks.items ++ more) (s.output.feed.items ++ output.feed) rs)) c.in_ok-apply.ensures.replies
    ∙ texts_after s.marks.items s.output.feed.items s.output.replies.items c.args.before counts output.feed output.replies c.self.invariant.0
    ∙ ap (λ (t : List ℕ). t ++ (feed_lines c.args.before output.feed ++ reply_lines counts output.replies)) c.self.view_is
