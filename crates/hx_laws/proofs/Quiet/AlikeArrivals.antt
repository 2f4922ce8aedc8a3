-- The same order arrives in two markets that are alike.
use Rattle.std.proofs.Common.{◌≡◌, ℕ, ◌+◌, Bool, true, false, cond, refl, ap, sym, ◌∙◌, ltb, ◌&&◌, not, List, [], ◌∷◌, ◌++◌, length}
use Rattle.std.specs.Prelude.{if◌then◌else◌}
use Rattle.hx_match.specs.declared.fills.Incoming.{Incoming}
use Rattle.hx_match.specs.Matching.{Execution, Matched, matched, with_shares}
use Rattle.hx_members.specs.Chains.{Used, Chain, entered_of, note}
use Rattle.hx_rules.specs.Orders.{Order, Token}
use Rattle.hx_rules.specs.declared.matches.Match.{Match}
use Rattle.hx_rules.specs.Markets.{Market}
use Rattle.hx_rules.specs.Executions.{incoming_of, matches_of, chains_after, replies_of_executions, canceled_of, resting_of, displays, Arrival, settled, arrive}
use Rattle.hx_laws.specs.QuietChains.{Choice}
use Rattle.hx_laws.specs.Laws.{AreSpared}
use Rattle.hx_laws.proofs.Quiet.RetainedViews.{none, blank, retained, retained_chains, retained_matched, blank_executions}
use Rattle.hx_laws.proofs.Quiet.RetainedChoices.{retained-append, matched-retained}
use Rattle.hx_laws.proofs.Quiet.RetainedWords.{note_retained, chains_retained, replies_of_executions-blank}
use Rattle.hx_laws.proofs.Quiet.Alike.{IsAlike, rest_of, alike_entered, alike_matches}

-- What a blank leaves as it is.

none_chosen : (es : List Execution) → AreSpared none es
none_chosen [] = tt
none_chosen (e ∷ es) = (refl, none_chosen es)

pub length-blank : (es : List Execution) → length (blank_executions true es) ≡ length es
length-blank [] = refl
length-blank (e ∷ es) = rw (length-blank es) refl

matches-blank : (m : ℕ) (t : Token) (es : List Execution) → matches_of m t (blank_executions true es) ≡ matches_of m t es
matches-blank m t [] = refl
matches-blank m t (e ∷ es) = rw (matches-blank m t es) refl

chains-blank : (ts : List Used) (m : ℕ) (e : Token) (es : List Execution) (cs : List Chain) → chains_after ts m e (blank_executions true es) cs ≡ chains_after ts m e es cs
chains-blank ts m e [] cs = refl
chains-blank ts m e (f ∷ es) cs = rw (chains-blank ts m e es _) refl

resting_retained : (s : Choice) (x : Order) (immediate : Bool) (left : ℕ) → s x.member x.token ≡ false → retained true s (resting_of x immediate left) ≡ resting_of (blank true x) immediate left
resting_retained s x immediate left e = choose (ltb 0 left && not immediate)
  where
    choose : (b : Bool) → retained true s (cond b (with_shares x left ∷ []) []) ≡ cond b (with_shares (blank true x) left ∷ []) []
    choose true = rw e refl
    choose false = refl

displays_blank : (x : Order) (immediate : Bool) (left : ℕ) → displays (resting_of (blank true x) immediate left) ≡ displays (resting_of x immediate left)
displays_blank x immediate left = choose (ltb 0 left && not immediate)
  where
    choose : (b : Bool) → displays (cond b (with_shares (blank true x) left ∷ []) []) ≡ displays (cond b (with_shares x left ∷ []) [])
    choose true = refl
    choose false = refl

displayed_retained : (s : Choice) (b : Bool) (m : ℕ) (e : Token) (cs : List Chain)
    → retained_chains s (if b then note m e 0 true cs else cs) ≡ (if b then note m e 0 true (retained_chains s cs) else retained_chains s cs)
displayed_retained s true m e cs = note_retained s m e 0 true cs
displayed_retained s false m e cs = refl

-- arrivals that differ in nothing that is not blanked
pub record ArriveAlike (s : Choice) (a b : Arrival) : Type 0 where
  pub market : IsAlike s a.market b.market
  pub executions : blank_executions true a.executions ≡ blank_executions true b.executions
  pub resting : retained true none a.resting ≡ retained true none b.resting
  pub replies : a.replies ≡ b.replies

-- the executions are the same if none of a chosen order is among them
same_matched : (s : Choice) (a b : Market) → IsAlike s a b → (inc : Incoming) (n : ℕ) → AreSpared s (matched inc n a.live).fills
    → retained_matched true s (matched inc n a.live) ≡ retained_matched true none (matched inc n b.live)
same_matched s a b r inc n h = sym (matched-retained true s inc n a.live h) ∙ ap (matched inc n) r.live ∙ matched-retained true none inc n b.live (none_chosen _)

-- what the executions leave, and their output, is alike
settled_alike : (s : Choice) (a b : Market) → IsAlike s a b → (time : ℕ) (immediate : Bool) (x y : Order) → blank true x ≡ blank true y → s x.member x.token ≡ false
    → (ma mb : Matched) → retained_matched true s ma ≡ retained_matched true none mb → AreSpared s ma.fills → ArriveAlike s (settled time immediate x a ma) (settled time immediate y b mb)
settled_alike s a b r time immediate x y p e ma mb q h =
    record {
      market = record {
        live =
            retained-append true s ma.rest (resting_of x immediate ma.left) ∙ ap (λ z. z ++ retained true s (resting_of x immediate ma.left)) rest
            ∙ ap (λ z. retained true none mb.rest ++ z) (resting_retained s x immediate ma.left e ∙ rests ∙ sym (resting_retained none y immediate mb.left refl))
            ∙ sym (retained-append true none mb.rest (resting_of y immediate mb.left));
        tokens = r.tokens;
        chains = displayed_retained s (displays (resting_of x immediate ma.left)) x.member ea (chains_after a.tokens x.member ea ma.fills a.chains) ∙ (rw (shows, chains, entered, member) refl);
        counts = r.counts;
        private = r.private;
        rest = ap (λ (z : Market). record z {
          numbers = record z.numbers { matches = z.numbers.matches + length ma.fills };
          executions = z.executions ++ matches_of x.member x.token ma.fills;
        }) r.rest
            ∙ ap (λ (n : ℕ). record (rest_of b) {
              numbers = record b.numbers { private = []; matches = b.numbers.matches + n };
              executions = b.executions ++ matches_of x.member x.token ma.fills;
            }) number
            ∙ ap (λ (ms : List Match). record (rest_of b) {
              numbers = record b.numbers { private = []; matches = b.numbers.matches + length mb.fills };
              executions = b.executions ++ ms;
            }) done;
      };
      executions = fills;
      resting = resting_retained none x immediate ma.left refl ∙ rests ∙ sym (resting_retained none y immediate mb.left refl);
      replies =
          let f : replies_of_executions time x.member x.token a.numbers.matches ma.fills ≡ replies_of_executions time y.member y.token b.numbers.matches mb.fills
          = replies_of_executions-blank time x.member x.token a.numbers.matches ma.fills ∙ (rw (alike_matches s a b r, member, token, fills) (sym (replies_of_executions-blank time y.member y.token b.numbers.matches mb.fills))) in
          let c : canceled_of time x.member x.token immediate ma.left ≡ canceled_of time y.member y.token immediate mb.left = rw (left, member, token) refl in
          cc;
    }
  where
    member : x.member ≡ y.member
    member = ap (λ (z : Order). z.member) p

    token : x.token ≡ y.token
    token = ap (λ (z : Order). z.token) p

    left : ma.left ≡ mb.left
    left = ap (λ (z : Matched). z.left) q

    rest : retained true s ma.rest ≡ retained true none mb.rest
    rest = ap (λ (z : Matched). z.rest) q

    fills : blank_executions true ma.fills ≡ blank_executions true mb.fills
    fills = ap (λ (z : Matched). z.fills) q

    number : length ma.fills ≡ length mb.fills
    number = sym (length-blank ma.fills) ∙ ap length fills ∙ length-blank mb.fills

    done : matches_of x.member x.token ma.fills ≡ matches_of y.member y.token mb.fills
    done = sym (matches-blank x.member x.token ma.fills) ∙ (rw (member, token, fills) (matches-blank y.member y.token mb.fills))

    ea : Token
    ea = entered_of a.tokens x.member x.token

    eb : Token
    eb = entered_of b.tokens y.member y.token

    entered : ea ≡ eb
    entered = alike_entered s a b r x.member x.token e ∙ (rw (member, token) refl)

    chains : retained_chains s (chains_after a.tokens x.member ea ma.fills a.chains) ≡ chains_after b.tokens y.member eb mb.fills b.chains
    chains = chains_retained s a.tokens x.member ea ma.fills a.chains h ∙ (rw (r.tokens, r.chains, fills, entered, member) (chains-blank b.tokens y.member eb mb.fills b.chains))

    shows : displays (resting_of x immediate ma.left) ≡ displays (resting_of y immediate mb.left)
    shows =
        sym (displays_blank x immediate ma.left) ∙ ap (λ (z : Order). displays (resting_of z immediate ma.left)) p
        ∙ displays_blank y immediate ma.left ∙ ap (λ (n : ℕ). displays (resting_of y immediate n)) left

    rests : resting_of (blank true x) immediate ma.left ≡ resting_of (blank true y) immediate mb.left
    rests = ap (λ (z : Order). resting_of z immediate ma.left) p ∙ ap (λ (n : ℕ). resting_of (blank true y) immediate n) left

-- so are the arrivals of one order, but for what is blanked of it
pub arrive_alike : (s : Choice) (a b : Market) → IsAlike s a b → (time : ℕ) (immediate : Bool) (x y : Order) → blank true x ≡ blank true y → s x.member x.token ≡ false
    → AreSpared s (matched (incoming_of x) x.shares a.live).fills → ArriveAlike s (arrive time immediate x a) (arrive time immediate y b)
arrive_alike s a b r time immediate x y p e h =
    let inc : incoming_of x ≡ incoming_of y = ap (λ (z : Order). incoming_of z) p in
    let n : x.shares ≡ y.shares = ap (λ (z : Order). z.shares) p in
    settled_alike s a b r time immediate x y p e (matched (incoming_of x) x.shares a.live) (matched (incoming_of y) y.shares b.live)
    (same_matched s a b r (incoming_of x) x.shares h ∙ ap (λ i. retained_matched true none (matched i x.shares b.live)) inc ∙ ap (λ k. retained_matched true none (matched (incoming_of y) k b.live)) n) h
