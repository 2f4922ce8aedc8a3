use Rattle.std.proofs.Common.{◌≡◌, ◌+◌, ◌++◌, ℕ, List, length, refl, ap, ◌∙◌}
use Rattle.std.specs.Vec.{with_items}
use Rattle.std.proofs.lemmas.List.{with_items_is}
use Rattle.hx_market.specs.Refusals.{refusal, or_no_memory}
use Rattle.hx_market.specs.Steps.{step}
use Rattle.hx_tape_lines.specs.Text.{Entry, line}
use Rattle.hx_tape_lines.specs.Events.{event_of, IsKnown}
use Rattle.hx_replay.specs.Run.{Progress, fault_of}
use Rattle.hx_replay.specs.Output.{feed_lines, reply_lines}
use Rattle.hx_replay.proofs.Few.{counts-length}
use Rattle.hx_replay.proofs.Applying.{refused_line, applies_event}
use Rattle.hx_replay.proofs.run.Run.apply_event.Goals as goal

pub returns-in-Err-clause-faults : goal.returns-in-Err-clause-faults
returns-in-Err-clause-faults g c = λ (e : Entry) (known : IsKnown e) (same : c.args.event.now ≡ event_of e).
    refused_line c.args.self.now (line e) e c.args.event.now c.fault_of.result known.entry refl same known.known
    (c.fault_of.ensures ∙ ap (fault_of (c.self.inside.counts.events + 1)) c.in-Err.ensures.refused
    ∙ ap (λ (p : Progress). fault_of (p.events + 1) (or_no_memory (refusal p.setup p.market.recorded c.args.event.now))) c.self.view_is)

pub returns-in-Ok-clause-ok : goal.returns-in-Ok-clause-ok
returns-in-Ok-clause-ok g c = λ (e : Entry) (known : IsKnown e) (same : c.args.event.now ≡ event_of e).
    let s = c.self.inside in
    let output = (step s.market.setup s.market.market c.args.event.now).output in
    let counts : List ℕ = c.deref_mut.result.now in
    let k = c.in-Ok.ensures in
    let as_many : length c.apply.new.counts ≡ s.replies.len = ap (λ (l : List ℕ). length l) k.counted ∙ counts-length counts output.replies ∙ c.deref_mut.ensures.len in
    let retained : (with_items s.replies c.apply.new.counts).items ≡ c.apply.new.counts = with_items_is s.replies c.apply.new.counts as_many in (
      feed_lines s.counts.feed output.feed ++ reply_lines counts output.replies,
      rw (c.after-self-inside.ensures, retained) (applies_event c.args.self.now s.market.setup c.apply.new.market.setup s.market.market c.apply.new.market.market s.counts.events s.counts.feed s.counts.replies c.in-Ok.output.feed c.in-Ok.output.replies counts c.apply.new.counts e c.args.event.now
          (rw c.deref_mut.ensures.value c.self.view_is) k.setup k.passes k.market k.feed_count k.reply_count k.counted known.entry known.known same),
      k.output,
    )
