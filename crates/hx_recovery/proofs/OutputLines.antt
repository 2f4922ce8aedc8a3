-- The lines of the feed and those to a member among the lines of a history's output.
use Rattle.std.proofs.Common.{◌≡◌, ℕ, zero, suc, ◌+◌, ◌<◌, Bool, true, false, cond, eqb, eqb-true, eq-eqb, List, [], ◌∷◌, ◌++◌, map, length, replicate, slice_index, refl, sym, ap, subst, ◌∙◌, arith, append_assoc}
use Rattle.std.specs.List.{filter}
use Rattle.hx_itch.specs.declared.message.Feed.{Feed}
use Rattle.hx_ouch.specs.declared.outbound.Outbound.{Outbound}
use Rattle.hx_members.specs.Setups.{Setup}
use Rattle.hx_refs.specs.Numbers.{raised}
use Rattle.hx_refs.proofs.Numbers.{length-raised, raised-other}
use Rattle.hx_rules.specs.declared.event.Event.{Event}
use Rattle.hx_market.specs.Outputs.{Reply, EventOutput}
use Rattle.hx_market.specs.Steps.{output, feed_of, feed, replies_among, replies_of, replies}
use Rattle.hx_market.specs.QuietChains.{Line, reply_lines, lines_of_all}
use Rattle.hx_market.specs.QuietChains.Line.{ToFeed, ToMember}
use Rattle.hx_desk.specs.Entries.{feed_spelled}
use Rattle.hx_desk.specs.Rows.{replies_spelled}
use Rattle.hx_replay.specs.Output.{reply_line}
use Rattle.hx_replay.specs.Seen.Numbered.{OfFeed, OfMember}
use Rattle.hx_replay.specs.Seen.{text_of, texts_of, numbered, output_lines, is_to}
use Rattle.hx_replay.specs.Quiet.{feed_among}
use Rattle.hx_recovery.specs.Served.{feed_text, reply_text}
use Rattle.hx_units.proofs.Lists.{slice_index-zeros}

-- all lines of the output of events
abbrev all_lines : List EventOutput → List Line
all_lines ts = lines_of_all (λ member. true) ts

-- ---- the feed

-- the messages of the feed among lines
fed : List Line → List Feed
fed [] = []
fed (ToFeed message ∷ lines) = message ∷ fed lines
fed (ToMember member reply ∷ lines) = fed lines

fed_text : (n : ℕ) (counts : List ℕ) (lines : List Line) → texts_of (feed_among (numbered n counts lines)) ≡ feed_text n (feed_spelled (fed lines))
unfolding fed
fed_text n counts [] = refl
fed_text n counts (ToFeed message ∷ lines) = ap (λ (x : List ℕ). text_of (OfFeed (n + 1) message) ++ x) (fed_text (n + 1) counts lines)
fed_text n counts (ToMember member reply ∷ lines) = fed_text n (raised counts member) lines

fed_append : (xs ys : List Line) → fed (xs ++ ys) ≡ fed xs ++ fed ys
unfolding fed
fed_append [] ys = refl
fed_append (ToFeed message ∷ xs) ys = ap (λ (l : List Feed). message ∷ l) (fed_append xs ys)
fed_append (ToMember member reply ∷ xs) ys = fed_append xs ys

fed_feed : (messages : List Feed) → fed (map ToFeed messages) ≡ messages
unfolding fed
fed_feed [] = refl
fed_feed (message ∷ messages) = ap (λ (l : List Feed). message ∷ l) (fed_feed messages)

fed_replies : (rs : List Reply) → fed (reply_lines (λ member. true) rs) ≡ []
unfolding fed
fed_replies [] = refl
fed_replies (r ∷ rs) = fed_replies rs

fed_all : (ts : List EventOutput) → fed (all_lines ts) ≡ feed_of ts
unfolding fed
fed_all [] = refl
fed_all (t ∷ ts) =
    let messages = map ToFeed t.feed in
    let rs = reply_lines (λ member. true) t.replies in
    fed_append (messages ++ rs) (all_lines ts)
    ∙ ap (λ (l : List Feed). l ++ fed (all_lines ts)) (fed_append messages rs)
    ∙ ap (λ (l : List Feed). (fed messages ++ l) ++ fed (all_lines ts)) (fed_replies t.replies)
    ∙ ap (λ (l : List Feed). (l ++ []) ++ fed (all_lines ts)) (fed_feed t.feed)
    ∙ append_assoc t.feed [] (fed (all_lines ts))
    ∙ ap (λ (l : List Feed). t.feed ++ l) (fed_all ts)

pub feed_output : (setup : Setup) (events : List Event) → texts_of (feed_among (output_lines setup events)) ≡ feed_text 0 (feed_spelled (feed setup events))
unfolding output_lines feed
feed_output setup events =
    fed_text 0 (replicate 4096 0) (all_lines (output setup events))
    ∙ ap (λ (l : List Feed). feed_text 0 (feed_spelled l)) (fed_all (output setup events))

-- ---- the replies to a member

-- the replies to a member among lines
his : (m : ℕ) → List Line → List Outbound
his m [] = []
his m (ToFeed message ∷ lines) = his m lines
his m (ToMember i reply ∷ lines) = cond (eqb i m) (reply ∷ his m lines) (his m lines)

raised_here : (counts : List ℕ) (m : ℕ) → m < length counts → slice_index (raised counts m) m ≡ slice_index counts m + 1
raised_here [] m lt = absurd (omega (arith, lt))
raised_here (c ∷ counts) zero lt = refl
raised_here (c ∷ counts) (suc m) lt = raised_here counts m (omega (arith, lt))

his_text : (m n : ℕ) (counts : List ℕ) (lines : List Line) → m < length counts
    → texts_of (filter (λ line. is_to m line) (numbered n counts lines)) ≡ reply_text m (slice_index counts m) (replies_spelled (his m lines))
unfolding his
his_text m n counts [] lt = refl
his_text m n counts (ToFeed message ∷ lines) lt = his_text m (n + 1) counts lines lt
his_text m n counts (ToMember i reply ∷ lines) lt = at (eqb i m) refl (his_text m n (raised counts i) lines (subst (λ k. m < k) (sym (length-raised counts i)) lt))
  where
    at : (b : Bool) → eqb i m ≡ b
        → texts_of (filter (λ line. is_to m line) (numbered n (raised counts i) lines)) ≡ reply_text m (slice_index (raised counts i) m) (replies_spelled (his m lines))
        → texts_of (cond b (OfMember i (slice_index counts i + 1) reply ∷ filter (λ line. is_to m line) (numbered n (raised counts i) lines)) (filter (λ line. is_to m line) (numbered n (raised counts i) lines)))
        ≡ reply_text m (slice_index counts m) (replies_spelled (cond b (reply ∷ his m lines) (his m lines)))
    at false e h = h ∙ ap (λ k. reply_text m k (replies_spelled (his m lines))) (raised-other counts i m (λ same. absurd (let z : true ≡ false = sym (eq-eqb i m same) ∙ e in cc)))
    at true e h =
        let same : i ≡ m = eqb-true i m e in
        let one : slice_index (raised counts i) m ≡ slice_index counts m + 1 = ap (λ k. slice_index (raised counts k) m) same ∙ raised_here counts m lt in
        ap (λ (x : List ℕ). reply_line i (slice_index counts i + 1) reply ++ x) (h ∙ ap (λ k. reply_text m k (replies_spelled (his m lines))) one)
        ∙ ap (λ k. reply_line k (slice_index counts k + 1) reply ++ reply_text m (slice_index counts m + 1) (replies_spelled (his m lines))) same

his_append : (m : ℕ) (xs ys : List Line) → his m (xs ++ ys) ≡ his m xs ++ his m ys
unfolding his
his_append m [] ys = refl
his_append m (ToFeed message ∷ xs) ys = his_append m xs ys
his_append m (ToMember i reply ∷ xs) ys = at (eqb i m) (his_append m xs ys)
  where
    at : (b : Bool) → his m (xs ++ ys) ≡ his m xs ++ his m ys → cond b (reply ∷ his m (xs ++ ys)) (his m (xs ++ ys)) ≡ cond b (reply ∷ his m xs) (his m xs) ++ his m ys
    at true h = ap (λ (l : List Outbound). reply ∷ l) h
    at false h = h

his_feed : (m : ℕ) (messages : List Feed) → his m (map ToFeed messages) ≡ []
unfolding his
his_feed m [] = refl
his_feed m (message ∷ messages) = his_feed m messages

his_replies : (m : ℕ) (rs : List Reply) → his m (reply_lines (λ member. true) rs) ≡ replies_among m rs
unfolding his
his_replies m [] = refl
his_replies m (r ∷ rs) = ap (λ (l : List Outbound). cond (eqb r.0 m) (r.1 ∷ l) l) (his_replies m rs)

his_all : (m : ℕ) (ts : List EventOutput) → his m (all_lines ts) ≡ replies_of m ts
unfolding his
his_all m [] = refl
his_all m (t ∷ ts) =
    let messages = map ToFeed t.feed in
    let rs = reply_lines (λ member. true) t.replies in
    his_append m (messages ++ rs) (all_lines ts)
    ∙ ap (λ (l : List Outbound). l ++ his m (all_lines ts)) (his_append m messages rs)
    ∙ ap (λ (l : List Outbound). (l ++ his m rs) ++ his m (all_lines ts)) (his_feed m t.feed)
    ∙ ap (λ (l : List Outbound). l ++ his m (all_lines ts)) (his_replies m t.replies)
    ∙ ap (λ (l : List Outbound). replies_among m t.replies ++ l) (his_all m ts)

many : (k : ℕ) → length {A = ℕ} (replicate k 0) ≡ k
many zero = refl
many (suc k) = ap (λ n. suc n) (many k)

pub replies_output : (setup : Setup) (m : ℕ) (events : List Event) → m < 4096
    → texts_of (filter (λ line. is_to m line) (output_lines setup events)) ≡ reply_text m 0 (replies_spelled (replies setup m events))
unfolding output_lines replies
replies_output setup m events lt =
    his_text m 0 (replicate 4096 0) (all_lines (output setup events)) (subst (λ k. m < k) (sym (many 4096)) lt)
    ∙ ap (λ k. reply_text m k (replies_spelled (his m (all_lines (output setup events))))) (slice_index-zeros 4096 m)
    ∙ ap (λ (l : List Outbound). reply_text m 0 (replies_spelled l)) (his_all m (output setup events))
