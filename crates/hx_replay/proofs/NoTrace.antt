-- Quiet orders leave no trace in the lines.
use Rattle.std.proofs.Common.{◌≡◌, ℕ, zero, suc, ◌+◌, Bool, true, false, cond, not, ◌&&◌, ◌||◌, List, [], ◌∷◌, ◌++◌, map, length, replicate, refl, sym, ap, ◌∙◌, arith, slice_index, append_assoc}
use Rattle.std.specs.Prelude.{◌==◌}
use Rattle.std.specs.List.{filter, list_any}
use Rattle.std.proofs.lemmas.List.Elements.{filter-append}
use Rattle.hx_units.specs.Names.{is_token}
use Rattle.hx_itch.specs.declared.message.Feed.{Feed}
use Rattle.hx_members.specs.Setups.{Setup}
use Rattle.hx_refs.specs.Numbers.{raised}
use Rattle.hx_refs.proofs.Numbers.{length-raised, raised-other}
use Rattle.hx_rules.specs.declared.event.Event.{Event}
use Rattle.hx_market.specs.Outputs.{Reply, EventOutput}
use Rattle.hx_market.specs.Steps.{run, output}
use Rattle.hx_market.specs.QuietChains.{Choice, Line, is_quiet, quiet_of_one, quiet_but_one, reply_lines, lines_of_all, all_but, strike, strike_one, strike_all, strike_but}
use Rattle.hx_market.specs.QuietChains.Line.{ToFeed, ToMember}
use Rattle.hx_laws.specs.Laws.{AreQuietChains, IsUnknownTo, listed}
use Rattle.hx_laws.proofs.History.EventMoves.{coherent_run}
use Rattle.hx_laws.proofs.Quiet.StruckRuns.{quiet_chains}
use Rattle.hx_laws.proofs.Quiet.StruckChoices.{among_quiet, listed_is_choice, quiet_is_choice}
use Rattle.hx_tape_lines.specs.Text.{Entry}
use Rattle.hx_replay.specs.Output.{feed_lines, counts_after, outputs_lines}
use Rattle.hx_replay.specs.Output as output_texts
use Rattle.hx_tape_lines.specs.Events.{event_of}
use Rattle.hx_replay.specs.Run.{start, output_all}
use Rattle.hx_replay.specs.Seen.{Numbered}
use Rattle.hx_replay.specs.Seen.Numbered.{OfFeed, OfMember}
use Rattle.hx_replay.specs.Seen.{texts_of, numbered, output_lines, not_to, is_to, LeavesNoTrace}
use Rattle.hx_replay.specs.Quiet.{is_of_feed, TellsNothing}
use Rattle.hx_replay.proofs.OutputIsOfEvents.{output_is_of_events}

-- The text of the lines.

of_feed : (n : ℕ) (counts : List ℕ) (feed : List Feed) (more : List Line) → texts_of (numbered n counts (map ToFeed feed ++ more)) ≡ feed_lines n feed ++ texts_of (numbered (n + length feed) counts more)
of_feed n counts [] more = ap (λ k. texts_of (numbered k counts more)) (let z : n ≡ n + 0 = omega arith in z)
of_feed n counts (message ∷ feed) more =
    let line = output_texts.feed_line (n + 1) message in
    ap (λ (x : List ℕ). line ++ x) (of_feed (n + 1) counts feed more)
    ∙ sym (append_assoc line (feed_lines (n + 1) feed) (texts_of (numbered (n + 1 + length feed) counts more)))
    ∙ ap (λ k. (line ++ feed_lines (n + 1) feed) ++ texts_of (numbered k counts more)) (next n (length feed))
  where
    next : (n k : ℕ) → n + 1 + k ≡ n + suc k
    next n k = omega arith

of_replies : (n : ℕ) (counts : List ℕ) (rs : List Reply) (more : List Line)
    → texts_of (numbered n counts (reply_lines (λ member. true) rs ++ more)) ≡ output_texts.reply_lines counts rs ++ texts_of (numbered n (counts_after counts rs) more)
of_replies n counts [] more = refl
of_replies n counts (r ∷ rs) more =
    let line = output_texts.reply_line r.0 (slice_index counts r.0 + 1) r.1 in
    ap (λ (x : List ℕ). line ++ x) (of_replies n (raised counts r.0) rs more)
    ∙ sym (append_assoc line (output_texts.reply_lines (raised counts r.0) rs) (texts_of (numbered n (counts_after (raised counts r.0) rs) more)))

of_output : (n : ℕ) (counts : List ℕ) (ts : List EventOutput) → outputs_lines n counts ts ≡ texts_of (numbered n counts (lines_of_all (λ member. true) ts))
of_output n counts [] = refl
of_output n counts (t ∷ ts) =
    let all = lines_of_all (λ member. true) ts in
    let replies = reply_lines (λ member. true) t.replies in
    let after = texts_of (numbered (n + length t.feed) (counts_after counts t.replies) all) in
    ap (λ (x : List ℕ). (feed_lines n t.feed ++ output_texts.reply_lines counts t.replies) ++ x) (of_output (n + length t.feed) (counts_after counts t.replies) ts)
    ∙ append_assoc (feed_lines n t.feed) (output_texts.reply_lines counts t.replies) after
    ∙ ap (λ (x : List ℕ). feed_lines n t.feed ++ x) (sym (of_replies (n + length t.feed) counts t.replies all))
    ∙ sym (of_feed n counts t.feed (replies ++ all))
    ∙ ap (λ (x : List Line). texts_of (numbered n counts x)) (sym (append_assoc (map ToFeed t.feed) replies all))

-- The lines for the members that may look.

-- counts of the same number of members, equal for those that may look
record AreLike (look : ℕ → Bool) (cs ds : List ℕ) : Type 0 where
  many : length cs ≡ length ds
  each : (k : ℕ) → look k ≡ true → slice_index cs k ≡ slice_index ds k

-- one more of a member that may not look
like_left : (look : ℕ → Bool) (i : ℕ) (cs ds : List ℕ) → look i ≡ false → AreLike look cs ds → AreLike look (raised cs i) ds
like_left look i cs ds e h = record {
  many = length-raised cs i ∙ h.many;
  each = λ k f. raised-other cs i k (λ same. absurd (let z : true ≡ false = sym f ∙ ap look (sym same) ∙ e in cc)) ∙ h.each k f;
}

raised-like : (xs ys : List ℕ) (i k : ℕ) → length xs ≡ length ys → slice_index xs i ≡ slice_index ys i → slice_index xs k ≡ slice_index ys k → slice_index (raised xs i) k ≡ slice_index (raised ys i) k
raised-like [] [] i k l h g = refl
raised-like [] (y ∷ ys) i k l h g = absurd (let z : 0 ≡ suc (length ys) = l in omega arith)
raised-like (x ∷ xs) [] i k l h g = absurd (let z : suc (length xs) ≡ 0 = l in omega arith)
raised-like (x ∷ xs) (y ∷ ys) zero zero l h g = ap (λ n. n + 1) h
raised-like (x ∷ xs) (y ∷ ys) zero (suc k) l h g = g
raised-like (x ∷ xs) (y ∷ ys) (suc i) zero l h g = g
raised-like (x ∷ xs) (y ∷ ys) (suc i) (suc k) l h g = raised-like xs ys i k (let z : suc (length xs) ≡ suc (length ys) = l in omega arith) h g

-- one more of a member that may look, in both
like_both : (look : ℕ → Bool) (i : ℕ) (cs ds : List ℕ) → look i ≡ true → AreLike look cs ds → AreLike look (raised cs i) (raised ds i)
like_both look i cs ds e h = record {
  many = length-raised cs i ∙ h.many ∙ sym (length-raised ds i);
  each = λ k f. raised-like cs ds i k h.many (h.each i e) (h.each k f);
}

-- the lines that those may look at
abbrev may_see : (ℕ → Bool) → Line → Bool
may_see look (ToFeed message) = true
may_see look (ToMember member reply) = look member

-- the same of lines with numbers
abbrev visible : (ℕ → Bool) → Numbered → Bool
visible look (OfFeed number message) = true
visible look (OfMember member number reply) = look member

-- their numbers stay
visible_numbered : (look : ℕ → Bool) (n : ℕ) (cs ds : List ℕ) (lines : List Line) → AreLike look cs ds → filter (visible look) (numbered n cs lines) ≡ numbered n ds (filter (may_see look) lines)
visible_numbered look n cs ds [] h = refl
visible_numbered look n cs ds (ToFeed message ∷ lines) h = ap (λ (x : List Numbered). OfFeed (n + 1) message ∷ x) (visible_numbered look (n + 1) cs ds lines h)
visible_numbered look n cs ds (ToMember i reply ∷ lines) h = at (look i) refl (λ es. visible_numbered look n (raised cs i) es lines)
  where
    at : (b : Bool) → look i ≡ b → ((es : List ℕ) → AreLike look (raised cs i) es → filter (visible look) (numbered n (raised cs i) lines) ≡ numbered n es (filter (may_see look) lines))
        → cond b (OfMember i (slice_index cs i + 1) reply ∷ filter (visible look) (numbered n (raised cs i) lines)) (filter (visible look) (numbered n (raised cs i) lines))
        ≡ numbered n ds (cond b (ToMember i reply ∷ filter (may_see look) lines) (filter (may_see look) lines))
    at false e ih = ih ds (like_left look i cs ds e h)
    at true e ih =
        ap (λ k. OfMember i (k + 1) reply ∷ filter (visible look) (numbered n (raised cs i) lines)) (h.each i e)
        ∙ ap (λ (x : List Numbered). OfMember i (slice_index ds i + 1) reply ∷ x) (ih (raised ds i) (like_both look i cs ds e h))

see_feed : (look : ℕ → Bool) (feed : List Feed) → filter (may_see look) (map ToFeed feed) ≡ map ToFeed feed
see_feed look [] = refl
see_feed look (f ∷ feed) = ap (λ (l : List Line). ToFeed f ∷ l) (see_feed look feed)

see_replies : (look : ℕ → Bool) (rs : List Reply) → filter (may_see look) (reply_lines (λ member. true) rs) ≡ reply_lines look rs
see_replies look [] = refl
see_replies look (r ∷ rs) = at (look r.0) (see_replies look rs)
  where
    at : (b : Bool) → filter (may_see look) (reply_lines (λ member. true) rs) ≡ reply_lines look rs
        → cond b (ToMember r.0 r.1 ∷ filter (may_see look) (reply_lines (λ member. true) rs)) (filter (may_see look) (reply_lines (λ member. true) rs)) ≡ cond b (ToMember r.0 r.1 ∷ reply_lines look rs) (reply_lines look rs)
    at true h = ap (λ (l : List Line). ToMember r.0 r.1 ∷ l) h
    at false h = h

see_all : (look : ℕ → Bool) (ts : List EventOutput) → filter (may_see look) (lines_of_all (λ member. true) ts) ≡ lines_of_all look ts
see_all look [] = refl
see_all look (t ∷ ts) =
    let feed = map ToFeed t.feed in
    let replies = reply_lines (λ member. true) t.replies in
    filter-append (may_see look) (feed ++ replies) (lines_of_all (λ member. true) ts)
    ∙ ap (λ (l : List Line). l ++ filter (may_see look) (lines_of_all (λ member. true) ts)) (filter-append (may_see look) feed replies)
    ∙ ap (λ (l : List Line). (l ++ filter (may_see look) replies) ++ filter (may_see look) (lines_of_all (λ member. true) ts)) (see_feed look t.feed)
    ∙ ap (λ (l : List Line). (feed ++ l) ++ filter (may_see look) (lines_of_all (λ member. true) ts)) (see_replies look t.replies)
    ∙ ap (λ (l : List Line). (feed ++ reply_lines look t.replies) ++ l) (see_all look ts)

-- the lines for the members that may look are what they see, numbered
visible_seen : (look : ℕ → Bool) (setup : Setup) (events : List Event) → filter (visible look) (output_lines setup events) ≡ numbered 0 (replicate 4096 0) (lines_of_all look (output setup events))
unfolding output_lines
visible_seen look setup events =
    visible_numbered look 0 (replicate 4096 0) (replicate 4096 0) (lines_of_all (λ member. true) (output setup events)) (record { many = refl; each = λ k e. refl })
    ∙ ap (λ (l : List Line). numbered 0 (replicate 4096 0) l) (see_all look (output setup events))

-- striking whole quiet chains leaves what those get of whom none is struck
any_choice : (setup : Setup) (events : List Event) (chosen : Choice) (look : ℕ → Bool) → AreQuietChains chosen (run setup events) → IsUnknownTo look chosen
    → filter (visible look) (output_lines setup events) ≡ filter (visible look) (output_lines setup (strike chosen events))
any_choice setup events chosen look quiet unknown =
    visible_seen look setup events
    ∙ ap (λ (l : List Line). numbered 0 (replicate 4096 0) l) (quiet_chains setup events chosen look quiet unknown)
    ∙ sym (visible_seen look setup (strike chosen events))

filter_same : {X : Type 0} (p q : X → Bool) → ((x : X) → p x ≡ q x) → (xs : List X) → filter p xs ≡ filter q xs
filter_same p q same [] = refl
filter_same p q same (x ∷ xs) = rw (same x, filter_same p q same xs) refl

-- the same of lines that pass the same test
same_lines : (setup : Setup) (events : List Event) (chosen : Choice) (look : ℕ → Bool) (test : Numbered → Bool) → ((line : Numbered) → test line ≡ visible look line)
    → AreQuietChains chosen (run setup events) → IsUnknownTo look chosen → filter test (output_lines setup events) ≡ filter test (output_lines setup (strike chosen events))
same_lines setup events chosen look test same quiet unknown =
    filter_same test (visible look) same (output_lines setup events)
    ∙ any_choice setup events chosen look quiet unknown
    ∙ sym (filter_same test (visible look) same (output_lines setup (strike chosen events)))

not_his : (m : ℕ) (line : Numbered) → not (is_to m line) ≡ visible (all_but m) line
not_his m (OfFeed number message) = refl
not_his m (OfMember member number reply) = refl

feeds : (line : Numbered) → is_of_feed line ≡ visible (λ member. false) line
feeds (OfFeed number message) = refl
feeds (OfMember member number reply) = refl

feeds_and_his : (p : ℕ) (line : Numbered) → (is_of_feed line || is_to p line) ≡ visible (λ member. member == p) line
feeds_and_his p (OfFeed number message) = refl
feeds_and_his p (OfMember member number reply) = refl

-- of one member's tokens the others know none
of_one_unknown : (m : ℕ) (s : Choice) → IsUnknownTo (all_but m) (λ member token. member == m && s member token)
of_one_unknown m s member h token = at (member == m) h
  where
    at : (b : Bool) → not b ≡ true → (b && s member token) ≡ false
    at true h = absurd (let z : false ≡ true = h in cc)
    at false h = refl

pub tells_nothing : (setup : Setup) (events : List Event) → TellsNothing setup events
unfolding strike_all strike_but quiet_but_one
tells_nothing setup events =
    let a = run setup events in
    record {
      part = λ m tokens whole. same_lines setup events (listed m tokens) (all_but m) (λ line. not (is_to m line)) (not_his m) (listed_is_choice setup events m tokens whole) (of_one_unknown m (λ member token. list_any (is_token token) tokens));
      all = same_lines setup events (is_quiet a) (λ member. false) is_of_feed feeds (among_quiet a (coherent_run setup events) (λ p. true)) (λ member h. absurd (let z : false ≡ true = h in cc));
      all_but_one = λ p. same_lines setup events (quiet_but_one p a) (λ member. member == p) (λ line. is_of_feed line || is_to p line) (feeds_and_his p)
          (among_quiet a (coherent_run setup events) (λ m. not (m == p))) (λ member h token. ap (λ b. not b && is_quiet a member token) h);
    }

pub texts_are : (setup : Setup) (es : List Entry) → output_all (start setup) es ≡ texts_of (output_lines setup (map event_of es))
unfolding output_lines
texts_are setup es = output_is_of_events setup es ∙ of_output 0 (replicate 4096 0) (output setup (map event_of es))

others_see : (setup : Setup) (events : List Event) (m : ℕ) → not_to m (output_lines setup events) ≡ not_to m (output_lines setup (strike_one setup m events))
unfolding strike_one quiet_of_one
others_see setup events m =
    let a = run setup events in
    same_lines setup events (quiet_of_one m a) (all_but m) (λ line. not (is_to m line)) (not_his m) (quiet_is_choice setup events m) (of_one_unknown m (is_quiet a))

pub no_trace : (setup : Setup) (es : List Entry) → LeavesNoTrace setup es
no_trace setup es = record {
  lines = texts_are setup es;
  same = λ m. others_see setup (map event_of es) m;
}
