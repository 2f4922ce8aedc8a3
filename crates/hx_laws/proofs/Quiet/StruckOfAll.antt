-- The quiet chains of all members at once: the feed; and those of all but one: its replies.
use Rattle.std.proofs.Common.{◌≡◌, ℕ, Bool, true, false, cond, refl, ap, sym, ◌∙◌, eqb-true, eq-eqb, ◌&&◌, not, List, [], ◌∷◌, ◌++◌, map}
use Rattle.std.specs.Prelude.{◌==◌}
use Rattle.std.proofs.lemmas.List.{append_assoc}
use Rattle.hx_itch.specs.declared.message.Feed.{Feed}
use Rattle.hx_ouch.specs.declared.outbound.Outbound.{Outbound}
use Rattle.hx_rules.specs.Outputs.{Reply, EventOutput}
use Rattle.hx_rules.specs.Steps.{run, output, feed_of, replies_among, replies_of, feed, replies}
use Rattle.hx_laws.specs.QuietChains.{is_quiet, quiet_but_one, strike, strike_all, strike_but, Line, reply_lines, lines_of_all}
use Rattle.hx_laws.specs.QuietChains.Line.{ToFeed, ToMember}
use Rattle.hx_laws.specs.Laws.{FeedOfAnyChoice, RepliesOfAnyChoice, AllMembers, AllButOne}
use Rattle.hx_laws.proofs.Quiet.QuietBefore.{not_both}
use Rattle.hx_laws.proofs.History.EventMoves.{coherent_run}
use Rattle.hx_laws.proofs.Quiet.StruckRuns.{quiet_chains}
use Rattle.hx_laws.proofs.Quiet.StruckChoices.{among_quiet}

-- The feed, and the replies to a member, out of the lines that are seen.

abbrev feed_in : List Line → List Feed
feed_in [] = []
feed_in (ToFeed f ∷ ls) = f ∷ feed_in ls
feed_in (ToMember m r ∷ ls) = feed_in ls

abbrev replies_in : ℕ → List Line → List Outbound
replies_in p [] = []
replies_in p (ToFeed f ∷ ls) = replies_in p ls
replies_in p (ToMember m r ∷ ls) = cond (m == p) (r ∷ replies_in p ls) (replies_in p ls)

feed_in-replies : (see : ℕ → Bool) (rs : List Reply) (ls : List Line) → feed_in (reply_lines see rs ++ ls) ≡ feed_in ls
feed_in-replies see [] ls = refl
feed_in-replies see (r ∷ rs) ls = choose (see r.0) (feed_in-replies see rs ls)
  where
    choose : (b : Bool) → feed_in (reply_lines see rs ++ ls) ≡ feed_in ls → feed_in (cond b (ToMember r.0 r.1 ∷ reply_lines see rs) (reply_lines see rs) ++ ls) ≡ feed_in ls
    choose true h = h
    choose false h = h

feed_in-feed : (fs : List Feed) (ls : List Line) → feed_in (map ToFeed fs ++ ls) ≡ fs ++ feed_in ls
feed_in-feed [] ls = refl
feed_in-feed (f ∷ fs) ls = ap (λ z. f ∷ z) (feed_in-feed fs ls)

feed_in-lines : (see : ℕ → Bool) (ts : List EventOutput) → feed_in (lines_of_all see ts) ≡ feed_of ts
feed_in-lines see [] = refl
feed_in-lines see (t ∷ ts) =
    ap feed_in (append_assoc (map ToFeed t.feed) (reply_lines see t.replies) (lines_of_all see ts)) ∙ feed_in-feed t.feed _
    ∙ ap (λ z. t.feed ++ z) (feed_in-replies see t.replies (lines_of_all see ts) ∙ feed_in-lines see ts)

replies_in-feed : (p : ℕ) (fs : List Feed) (ls : List Line) → replies_in p (map ToFeed fs ++ ls) ≡ replies_in p ls
replies_in-feed p [] ls = refl
replies_in-feed p (f ∷ fs) ls = replies_in-feed p fs ls

replies_in-replies : (see : ℕ → Bool) (p : ℕ) → see p ≡ true → (rs : List Reply) (ls : List Line) → replies_in p (reply_lines see rs ++ ls) ≡ replies_among p rs ++ replies_in p ls
replies_in-replies see p h [] ls = refl
replies_in-replies see p h (r ∷ rs) ls = choose (replies_in-replies see p h rs ls) (r.0 == p) refl (see r.0) refl
  where
    choose : replies_in p (reply_lines see rs ++ ls) ≡ replies_among p rs ++ replies_in p ls → (b : Bool) → (r.0 == p) ≡ b → (k : Bool) → see r.0 ≡ k
        → replies_in p (cond k (ToMember r.0 r.1 ∷ reply_lines see rs) (reply_lines see rs) ++ ls) ≡ cond b (r.1 ∷ replies_among p rs) (replies_among p rs) ++ replies_in p ls
    choose ih true e true f = rw (e, ih) refl
    choose ih false e true f = rw (e, ih) refl
    choose ih true e false f = not_both (see p) h (ap see (sym (eqb-true r.0 p e)) ∙ f)
    choose ih false e false f = ih

replies_in-lines : (see : ℕ → Bool) (p : ℕ) → see p ≡ true → (ts : List EventOutput) → replies_in p (lines_of_all see ts) ≡ replies_of p ts
replies_in-lines see p h [] = refl
replies_in-lines see p h (t ∷ ts) =
    ap (replies_in p) (append_assoc (map ToFeed t.feed) (reply_lines see t.replies) (lines_of_all see ts)) ∙ replies_in-feed p t.feed _
    ∙ replies_in-replies see p h t.replies (lines_of_all see ts) ∙ ap (λ z. replies_among p t.replies ++ z) (replies_in-lines see p h ts)

-- Of any choice of whole quiet chains.

nobody : ℕ → Bool
nobody p = false

pub feed_alone : FeedOfAnyChoice
unfolding feed nobody
feed_alone setup events s q =
    sym (feed_in-lines nobody (output setup events))
    ∙ ap feed_in (quiet_chains setup events s nobody q (λ p h. absurd (let z : false ≡ true = h in cc)))
    ∙ feed_in-lines nobody (output setup (strike s events))

pub replies_alone : RepliesOfAnyChoice
unfolding replies
replies_alone setup events s p q spared =
    let himself : (p == p) ≡ true = eq-eqb p p refl in
    sym (replies_in-lines (λ m. m == p) p himself (output setup events))
    ∙ ap (replies_in p) (quiet_chains setup events s (λ m. m == p) q (λ m h t. ap (λ k. s k t) (eqb-true m p h) ∙ spared t))
    ∙ replies_in-lines (λ m. m == p) p himself (output setup (strike s events))

pub all_members : AllMembers
unfolding strike_all
all_members setup events =
    let a = run setup events in
    feed_alone setup events (is_quiet a) (among_quiet a (coherent_run setup events) (λ p. true))

pub all_but_one : AllButOne
unfolding strike_but quiet_but_one
all_but_one setup p events =
    let a = run setup events in
    replies_alone setup events (quiet_but_one p a) p (among_quiet a (coherent_run setup events) (λ m. not (m == p)))
    (λ t. ap (λ b. not b && is_quiet a p t) (eq-eqb p p refl))
