use Rattle.std.proofs.Common.{ℕ, ◌++◌, List, ap, ◌∙◌, sym, subst}
use Rattle.hx_itch.specs.declared.message.Feed.{Feed}
use Rattle.hx_market.specs.Outputs.{Reply}
use Rattle.hx_replay.specs.declared.unwritten.Mark.{Mark}
use Rattle.hx_replay.specs.Marks.{lines_of, AreMarked, HaveRoomForTimes}
use Rattle.hx_replay.specs.Seen.{texts_of}
use Rattle.hx_replay.proofs.Marked.{marked_after, times_after, all_after}
use Rattle.hx_replay.proofs.unwritten.Unwritten.take_all.Goals as goal

pub invariant_of-self : goal.invariant_of-self
invariant_of-self c =
    let s = c.self.inside in
    let o = c.others.inside in
    let new = c.append_all.new.output in (
      subst (λ (ms : List Mark). AreMarked ms new.feed.items new.replies.items) (sym c.in-Ok.ensures.marks)
          (subst (λ (fs : List Feed). AreMarked (s.marks.items ++ o.marks.items) fs new.replies.items) (sym c.in-Ok.ensures.feed)
          (subst (λ (rs : List Reply). AreMarked (s.marks.items ++ o.marks.items) (s.output.feed.items ++ o.output.feed.items) rs) (sym c.in-Ok.ensures.replies)
          (marked_after s.marks.items o.marks.items s.output.feed.items o.output.feed.items s.output.replies.items o.output.replies.items c.self.invariant.0 c.others.invariant.0))),
      subst HaveRoomForTimes (sym c.in-Ok.ensures.feed) (times_after s.output.feed.items o.output.feed.items c.self.invariant.1 c.others.invariant.1),
    )

pub returns-in-Ok-clause-ok : goal.returns-in-Ok-clause-ok
returns-in-Ok-clause-ok c =
    let s = c.self.inside in
    let o = c.others.inside in
    let new = c.append_all.new.output in
    ap (λ (ms : List Mark). texts_of (lines_of ms new.feed.items new.replies.items)) c.in-Ok.ensures.marks
    ∙ ap (λ (fs : List Feed). texts_of (lines_of (s.marks.items ++ o.marks.items) fs new.replies.items)) c.in-Ok.ensures.feed
    ∙ ap (λ (rs : List Reply). texts_of (lines_of (s.marks.items ++ o.marks.items) (s.output.feed.items ++ o.output.feed.items) rs)) c.in-Ok.ensures.replies
    ∙ all_after s.marks.items o.marks.items s.output.feed.items o.output.feed.items s.output.replies.items o.output.replies.items c.self.invariant.0
    ∙ ap (λ (t : List ℕ). t ++ texts_of (lines_of o.marks.items o.output.feed.items o.output.replies.items)) c.self.view_is
    ∙ ap (λ (t : List ℕ). c.args.self.now ++ t) c.others.view_is
