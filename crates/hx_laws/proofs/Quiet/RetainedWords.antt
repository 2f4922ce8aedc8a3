-- How the retained tokens, chains and orders go through the words of the rules.
use Rattle.std.proofs.Common.{◌≡◌, ℕ, ◌+◌, ◌-◌, Bool, true, false, cond, refl, ltb, ◌||◌, ◌&&◌, not, List, [], ◌∷◌, ◌++◌, Some}
use Rattle.std.specs.Option.{option_map}
use Rattle.std.specs.List.{filter, find}
use Rattle.hx_units.specs.declared.names.Symbol.{Symbol}
use Rattle.hx_match.specs.Matching.{Execution, with_shares}
use Rattle.hx_members.specs.Chains.{Used, Chain, is_used, is_use, entered_of, executed_by, is_chain, noted, note}
use Rattle.hx_members.proofs.ChainLaws.{is_same, is_same-parts}
use Rattle.hx_itch.specs.declared.message.Feed.{Feed}
use Rattle.hx_itch.specs.declared.message.Feed.TheVariants.{OrderExecuted, Trade}
use Rattle.hx_rules.specs.Orders.{Token, Order, is_called}
use Rattle.hx_rules.specs.Executions.{chains_after, feed_of_execution, feed_of_executions, replies_of_executions}
use Rattle.hx_rules.specs.Removal.{less, lessened, others}
use Rattle.hx_laws.specs.QuietChains.{Choice}
use Rattle.hx_laws.specs.Laws.{AreSpared}
use Rattle.hx_laws.proofs.Quiet.QuietBefore.{not_both}
use Rattle.hx_laws.proofs.Quiet.RetainedViews.{blank, retained, retained_tokens, retained_chains, blank_execution, blank_executions}
use Rattle.hx_laws.proofs.Quiet.RetainedChoices.{retained-append, retained-less}

-- a choice is the same of one name
same_choice : (s : Choice) (m : ℕ) (t : Token) (p : ℕ) (q : Token) (k : Bool) → is_same p q m t ≡ true → s m t ≡ k → s p q ≡ k
same_choice s m t p q k h e = let b = is_same-parts p q m t h in rw (b.0, b.1) e

-- Tokens and chains.

pub retained_tokens-append : (s : Choice) (ts us : List Used) → retained_tokens s (ts ++ us) ≡ retained_tokens s ts ++ retained_tokens s us
retained_tokens-append s [] us = refl
retained_tokens-append s (u ∷ ts) us = rw (retained_tokens-append s ts us) (choose (s u.member u.token))
  where
    choose : (k : Bool) → cond k (retained_tokens s ts ++ retained_tokens s us) (u ∷ (retained_tokens s ts ++ retained_tokens s us)) ≡ cond k (retained_tokens s ts) (u ∷ retained_tokens s ts) ++ retained_tokens s us
    choose true = refl
    choose false = refl

pub retained_chains-append : (s : Choice) (cs ds : List Chain) → retained_chains s (cs ++ ds) ≡ retained_chains s cs ++ retained_chains s ds
retained_chains-append s [] ds = refl
retained_chains-append s (c ∷ cs) ds = rw (retained_chains-append s cs ds) (choose (s c.member c.entered))
  where
    choose : (k : Bool) → cond k (retained_chains s cs ++ retained_chains s ds) (c ∷ (retained_chains s cs ++ retained_chains s ds)) ≡ cond k (retained_chains s cs) (c ∷ retained_chains s cs) ++ retained_chains s ds
    choose true = refl
    choose false = refl

-- a token that is not chosen is used, in its chain, among the retained ones just as before
pub used_retained : (s : Choice) (m : ℕ) (t : Token) → s m t ≡ false → (ts : List Used) → is_used (retained_tokens s ts) m t ≡ is_used ts m t
used_retained s m t e [] = refl
used_retained s m t e (u ∷ ts) = choose (used_retained s m t e ts) (is_use m t u) refl (s u.member u.token) refl
  where
    choose : (is_used (retained_tokens s ts) m t ≡ is_used ts m t) → (b : Bool) → is_use m t u ≡ b → (k : Bool) → s u.member u.token ≡ k → is_used (cond k (retained_tokens s ts) (u ∷ retained_tokens s ts)) m t ≡ (b || is_used ts m t)
    choose ih true h true f = not_both _ f (same_choice s m t u.member u.token false h e)
    choose ih false h true f = ih
    choose ih b h false f = rw (h, ih) refl

pub entered_retained : (s : Choice) (m : ℕ) (t : Token) → s m t ≡ false → (ts : List Used) → entered_of (retained_tokens s ts) m t ≡ entered_of ts m t
entered_retained s m t e [] = refl
entered_retained s m t e (u ∷ ts) = choose (entered_retained s m t e ts) (is_use m t u) refl (s u.member u.token) refl
  where
    choose : (entered_of (retained_tokens s ts) m t ≡ entered_of ts m t) → (b : Bool) → is_use m t u ≡ b → (k : Bool) → s u.member u.token ≡ k → entered_of (cond k (retained_tokens s ts) (u ∷ retained_tokens s ts)) m t ≡ cond b u.entered (entered_of ts m t)
    choose ih true h true f = not_both _ f (same_choice s m t u.member u.token false h e)
    choose ih false h true f = ih
    choose ih b h false f = rw (h, ih) refl

pub executed_retained : (s : Choice) (m : ℕ) (t : Token) → s m t ≡ false → (cs : List Chain) → executed_by (retained_chains s cs) m t ≡ executed_by cs m t
executed_retained s m t e [] = refl
executed_retained s m t e (c ∷ cs) = choose (executed_retained s m t e cs) (is_chain m t c) refl (s c.member c.entered) refl
  where
    choose : (executed_by (retained_chains s cs) m t ≡ executed_by cs m t) → (b : Bool) → is_chain m t c ≡ b → (k : Bool) → s c.member c.entered ≡ k → executed_by (cond k (retained_chains s cs) (c ∷ retained_chains s cs)) m t ≡ cond b c.executed (executed_by cs m t)
    choose ih true h true f = not_both _ f (same_choice s m t c.member c.entered false h e)
    choose ih false h true f = ih
    choose ih b h false f = rw (h, ih) refl

pub note_retained : (s : Choice) (m : ℕ) (e : Token) (n : ℕ) (d : Bool) (cs : List Chain) → retained_chains s (note m e n d cs) ≡ note m e n d (retained_chains s cs)
note_retained s m e n d [] = refl
note_retained s m e n d (c ∷ cs) = rw (note_retained s m e n d cs) (choose (is_chain m e c) refl)
  where
    inner : (b k : Bool) → is_chain m e c ≡ b → cond k (note m e n d (retained_chains s cs)) (cond b (noted n d c) c ∷ note m e n d (retained_chains s cs)) ≡ note m e n d (cond k (retained_chains s cs) (c ∷ retained_chains s cs))
    inner b true h = refl
    inner b false h = rw h refl

    choose : (b : Bool) → is_chain m e c ≡ b
        → cond (s (cond b (noted n d c) c).member (cond b (noted n d c) c).entered) (note m e n d (retained_chains s cs)) (cond b (noted n d c) c ∷ note m e n d (retained_chains s cs))
        ≡ note m e n d (cond (s c.member c.entered) (retained_chains s cs) (c ∷ retained_chains s cs))
    choose true h = inner true _ h
    choose false h = inner false _ h

-- a note of a chosen chain changes nothing that is retained
pub chains_retained : (s : Choice) (ts : List Used) (m : ℕ) (e : Token) (fs : List Execution) (cs : List Chain) → AreSpared s fs
    → retained_chains s (chains_after ts m e fs cs) ≡ chains_after (retained_tokens s ts) m e (blank_executions true fs) (retained_chains s cs)
chains_retained s ts m e [] cs h = refl
chains_retained s ts m e (f ∷ fs) cs h =
    rw (chains_retained s ts m e fs _ h.1, note_retained s m e f.shares false _, note_retained s f.order.member _ f.shares false cs, ← entered_retained s f.order.member f.order.token h.0 ts) refl

-- Executions.

-- the feed and the replies of executions show nothing that is blanked
feed_of_execution-blank : (time : ℕ) (stock : Symbol) (n : ℕ) (f : Execution) → feed_of_execution time stock n f ≡ feed_of_execution time stock n (blank_execution true f)
feed_of_execution-blank time stock n f = choose f.order.shown
  where
    trade : Feed
    trade = Trade (record { locate = f.order.locate; time = time; shares = f.shares; stock = stock; price = f.order.price; match_number = n })

    executed : ℕ → Feed
    executed r = OrderExecuted (record { locate = f.order.locate; time = time; reference = r; shares = f.shares; match_number = n })

    choose : (b : Bool) → cond b (executed f.order.reference) trade ≡ cond b (executed (cond (not b && true) 0 f.order.reference)) trade
    choose true = refl
    choose false = refl

pub feed_of_executions-blank : (time : ℕ) (stock : Symbol) (n : ℕ) (es : List Execution) → feed_of_executions time stock n es ≡ feed_of_executions time stock n (blank_executions true es)
feed_of_executions-blank time stock n [] = refl
feed_of_executions-blank time stock n (f ∷ es) = rw (feed_of_execution-blank time stock (n + 1) f, feed_of_executions-blank time stock (n + 1) es) refl

pub replies_of_executions-blank : (time m : ℕ) (t : Token) (n : ℕ) (es : List Execution) → replies_of_executions time m t n es ≡ replies_of_executions time m t n (blank_executions true es)
replies_of_executions-blank time m t n [] = refl
replies_of_executions-blank time m t n (f ∷ es) = rw (replies_of_executions-blank time m t (n + 1) es) refl

-- Orders are found by their tokens, taken away, lessened, and filtered.

-- an order whose token is not chosen is found among the retained ones just as before
pub find_retained : (s : Choice) (m : ℕ) (t : Token) → s m t ≡ false → (xs : List Order) → find (is_called m t) (retained true s xs) ≡ option_map (blank true) (find (is_called m t) xs)
find_retained s m t e [] = refl
find_retained s m t e (x ∷ xs) = choose (find_retained s m t e xs) (is_called m t x) refl (s x.member x.token) refl
  where
    choose : (find (is_called m t) (retained true s xs) ≡ option_map (blank true) (find (is_called m t) xs)) → (b : Bool) → is_called m t x ≡ b → (k : Bool) → s x.member x.token ≡ k
        → find (is_called m t) (cond k (retained true s xs) (blank true x ∷ retained true s xs)) ≡ option_map (blank true) (cond b (Some x) (find (is_called m t) xs))
    choose ih true h true f = not_both _ f (same_choice s m t x.member x.token false h e)
    choose ih false h true f = ih
    choose ih true h false f = rw h refl
    choose ih false h false f = rw (h, ih) refl

-- a test that does not look at what is blanked
pub filter_retained : (s : Choice) (p : Order → Bool) → ((x : Order) → p (blank true x) ≡ p x) → (xs : List Order) → retained true s (filter p xs) ≡ filter p (retained true s xs)
filter_retained s p same [] = refl
filter_retained s p same (x ∷ xs) = choose (filter_retained s p same xs) (p x) refl (s x.member x.token) refl
  where
    choose : (retained true s (filter p xs) ≡ filter p (retained true s xs)) → (b : Bool) → p x ≡ b → (k : Bool) → s x.member x.token ≡ k
        → retained true s (cond b (x ∷ filter p xs) (filter p xs)) ≡ filter p (cond k (retained true s xs) (blank true x ∷ retained true s xs))
    choose ih true h true f = rw (f, ih) refl
    choose ih true h false f = rw (f, ih, same x, h) refl
    choose ih false h true f = ih
    choose ih false h false f = rw (ih, same x, h) refl

-- taking away a chosen order leaves what is retained
pub others_chosen : (s : Choice) (m : ℕ) (t : Token) → s m t ≡ true → (xs : List Order) → retained true s (others m t xs) ≡ retained true s xs
others_chosen s m t e [] = refl
others_chosen s m t e (x ∷ xs) = choose (others_chosen s m t e xs) (is_called m t x) refl
  where
    choose : (retained true s (others m t xs) ≡ retained true s xs) → (b : Bool) → is_called m t x ≡ b
        → retained true s (cond (not b) (x ∷ others m t xs) (others m t xs)) ≡ retained true s (x ∷ xs)
    choose ih true h = rw (same_choice s m t x.member x.token true h e) ih
    choose ih false h = rw ih refl

-- nothing is retained of a chosen order
less_chosen : (s : Choice) (x : Order) (by : ℕ) → s x.member x.token ≡ true → retained true s (less x by) ≡ []
less_chosen s x by e = choose (ltb by x.shares)
  where
    choose : (b : Bool) → retained true s (cond b (with_shares x (x.shares - by) ∷ []) []) ≡ []
    choose true = rw e refl
    choose false = refl

-- and it loses shares without a change of what is retained
pub lessened_chosen : (s : Choice) (m : ℕ) (t : Token) (by : ℕ) → s m t ≡ true → (xs : List Order) → retained true s (lessened m t by xs) ≡ retained true s xs
lessened_chosen s m t by e [] = refl
lessened_chosen s m t by e (x ∷ xs) = choose (lessened_chosen s m t by e xs) (is_called m t x) refl
  where
    choose : retained true s (lessened m t by xs) ≡ retained true s xs → (b : Bool) → is_called m t x ≡ b → retained true s (cond b (less x by ++ xs) (x ∷ lessened m t by xs)) ≡ retained true s (x ∷ xs)
    choose ih true h =
        let c = same_choice s m t x.member x.token true h e in
        rw (retained-append true s (less x by) xs, less_chosen s x by c, c) refl
    choose ih false h = rw ih refl

pub lessened_retained : (s : Choice) (m : ℕ) (t : Token) (by : ℕ) → s m t ≡ false → (xs : List Order) → retained true s (lessened m t by xs) ≡ lessened m t by (retained true s xs)
lessened_retained s m t by e [] = refl
lessened_retained s m t by e (x ∷ xs) = choose (lessened_retained s m t by e xs) (is_called m t x) refl (s x.member x.token) refl
  where
    choose : retained true s (lessened m t by xs) ≡ lessened m t by (retained true s xs) → (b : Bool) → is_called m t x ≡ b → (k : Bool) → s x.member x.token ≡ k
        → retained true s (cond b (less x by ++ xs) (x ∷ lessened m t by xs)) ≡ lessened m t by (cond k (retained true s xs) (blank true x ∷ retained true s xs))
    choose ih true h true f = not_both _ f (same_choice s m t x.member x.token false h e)
    choose ih true h false f = rw (retained-append true s (less x by) xs, retained-less true s x by f, h) refl
    choose ih false h true f = rw f ih
    choose ih false h false f = rw (f, ih, h) refl
