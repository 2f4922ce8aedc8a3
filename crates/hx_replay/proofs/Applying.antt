-- One line is applied.
use Rattle.std.proofs.Common.{◌≡◌, ℕ, ◌+◌, true, false, List, ◌++◌, length, Option, Some, None, refl, sym, ap, ◌∙◌, subst, inl, inr}
use Rattle.std.proofs.lemmas.Bool.{cond-true, cond-false}
use Rattle.hx_itch.specs.declared.message.Feed.{Feed}
use Rattle.hx_members.specs.Setups.{Setup}
use Rattle.hx_market.specs.Markets.{Market}
use Rattle.hx_rules.specs.declared.fault.PrepareError.{PrepareError}
use Rattle.hx_rules.specs.declared.fault.PrepareError.TheVariants as refused
use Rattle.hx_rules.specs.declared.event.Event.{Event}
use Rattle.hx_market.specs.Outputs.{Reply}
use Rattle.hx_market.specs.Steps.{step}
use Rattle.hx_market.specs.Refusals.{refusal, or_no_memory}
use Rattle.hx_tape_lines.specs.declared.fault.Kind.TheVariants as kind
use Rattle.hx_replay.specs.declared.fault.TapeError.{TapeError}
use Rattle.hx_tape_lines.specs.Text.{Entry, IsEntry, line}
use Rattle.hx_replay.specs.Output.{feed_lines, reply_lines, counts_after}
use Rattle.hx_tape_lines.specs.Events.{event_of, is_unknown, IsNoLine}
use Rattle.hx_replay.specs.Run.{Progress, kind_of, fault_of, check_of, output_of, after, Applies, Faults, FailsAs}

-- an entry that says something is checked by the market
pub checked : (p : Progress) (e : Entry) → is_unknown e ≡ false → check_of p e ≡ kind_of (refusal p.setup p.market.recorded (event_of e))
unfolding check_of
checked p e h = cond-false (is_unknown e) (Some kind.Bad) (kind_of (refusal p.setup p.market.recorded (event_of e))) h

-- an operator's line that says nothing is a bad line
pub unknown_is_bad : (p : Progress) (e : Entry) → is_unknown e ≡ true → check_of p e ≡ Some kind.Bad
unfolding check_of
unknown_is_bad p e h = cond-true (is_unknown e) (Some kind.Bad) (kind_of (refusal p.setup p.market.recorded (event_of e))) h

-- a text that is the line of no event is a bad line
pub no_line_is_bad : (p : Progress) (text : List ℕ) → IsNoLine text → FailsAs p kind.Bad text
no_line_is_bad p text (inl none) = inl (refl, none)
no_line_is_bad p text (inr (e, entry, is_line, unknown)) = inr (e, entry, is_line, unknown_is_bad p e unknown)

pub refused_line : (p : Progress) (text : List ℕ) (e : Entry) (event : Event) (x : TapeError) → IsEntry e → text ≡ line e → event ≡ event_of e → is_unknown e ≡ false
    → x ≡ fault_of (p.events + 1) (or_no_memory (refusal p.setup p.market.recorded event)) → Faults p text x
refused_line p text e event x entry is_line same known is =
    subst (Faults p text) (sym (is ∙ ap (λ (v : Event). fault_of (p.events + 1) (or_no_memory (refusal p.setup p.market.recorded v))) same)) (at (refusal p.setup p.market.recorded (event_of e)) (checked p e known))
  where
    at : (r : Option PrepareError) → check_of p e ≡ kind_of r → Faults p text (fault_of (p.events + 1) (or_no_memory r))
    at None h = tt
    at (Some refused.NoMemory) h = tt
    at (Some (refused.Limit m)) h = (refl, inr (e, entry, is_line, h))
    at (Some refused.NoMember) h = (refl, inr (e, entry, is_line, h))
    at (Some refused.BadTime) h = (refl, inr (e, entry, is_line, h))

pub applies_line : (p run new : Progress) (text written : List ℕ) (e : Entry) (event : Event) (feed : List Feed) (replies : List Reply) → IsEntry e → text ≡ line e → event ≡ event_of e → is_unknown e ≡ false
    → refusal p.setup p.market.recorded event ≡ None → run ≡ record p { market = (step p.setup p.market event).market } → feed ≡ (step p.setup p.market event).output.feed → replies ≡ (step p.setup p.market event).output.replies
    → written ≡ feed_lines run.feed feed ++ reply_lines run.counts replies
    → new ≡ record run { events = run.events + 1; feed = run.feed + length feed; replies = run.replies + length replies; counts = counts_after run.counts replies }
    → Applies p new text written
unfolding output_of after
applies_line p run new text written e event feed replies entry is_line same known passes run_is feed_is replies_is output_is new_is = record {
  entry = e;
  is_event = record { entry = entry; passes = checked p e known ∙ ap (λ (v : Event). kind_of (refusal p.setup p.market.recorded v)) (sym same) ∙ ap kind_of passes };
  is_line = is_line;
  output_is = output_is ∙ rw (run_is, feed_is, replies_is, same) refl;
  after_is = new_is ∙ rw (run_is, feed_is, replies_is, same) refl;
}

-- the line of an event that a market applies
pub applies_event : (p : Progress) (setup s : Setup) (market m : Market) (events feed replies fs rs : ℕ) (counts ds : List ℕ) (e : Entry) (event : Event)
    → (let q : Progress = record { setup = setup; market = market; events = events; feed = feed; replies = replies; counts = counts } in q) ≡ p
    → s ≡ setup → refusal setup market.recorded event ≡ None → m ≡ (step setup market event).market
    → fs ≡ length (step setup market event).output.feed → rs ≡ length (step setup market event).output.replies → ds ≡ counts_after counts (step setup market event).output.replies
    → IsEntry e → is_unknown e ≡ false → event ≡ event_of e
    → Applies p (record { setup = s; market = m; events = events + 1; feed = feed + fs; replies = replies + rs; counts = ds }) (line e)
    (feed_lines feed (step setup market event).output.feed ++ reply_lines counts (step setup market event).output.replies)
applies_event p setup s market m events feed replies fs rs counts ds e event is setup_is passes market_is fs_is rs_is ds_is entry known same =
    let q : Progress = record { setup = setup; market = market; events = events; feed = feed; replies = replies; counts = counts } in
    let output = (step setup market event).output in
    let new : Progress = record { setup = s; market = m; events = events + 1; feed = feed + fs; replies = replies + rs; counts = ds } in
    let written : List ℕ = feed_lines feed output.feed ++ reply_lines counts output.replies in
    subst (λ (v : Progress). Applies v new (line e) written) is
    (applies_line q (record q { market = (step setup market event).market }) new (line e) written e event output.feed output.replies entry refl same known passes refl refl refl refl
    (rw (setup_is, market_is, fs_is, rs_is, ds_is) refl))
