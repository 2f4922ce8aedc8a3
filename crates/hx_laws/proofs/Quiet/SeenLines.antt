-- What is seen of the output of an event.
use Rattle.std.proofs.Common.{◌≡◌, ℕ, Bool, true, false, cond, refl, ap, sym, ◌∙◌, ltb, ◌&&◌, not, List, [], ◌∷◌, ◌++◌, length, map}
use Rattle.std.specs.Prelude.{◌==◌}
use Rattle.std.specs.List.{AllByRecursion, filter}
use Rattle.hx_units.specs.declared.names.Symbol.{Symbol}
use Rattle.hx_match.specs.Matching.{Execution}
use Rattle.hx_itch.specs.declared.message.Feed.{Feed}
use Rattle.hx_itch.specs.declared.message.Feed.TheVariants.{OrderDelete, OrderReplace, OrderCancel}
use Rattle.hx_ouch.specs.declared.outbound.Outbound.{Outbound}
use Rattle.hx_rules.specs.Orders.{Order}
use Rattle.hx_rules.specs.Outputs.{Reply}
use Rattle.hx_rules.specs.Executions.{published, shown_of, arrival_feed}
use Rattle.hx_rules.specs.Removal.{deleted, taken_off, canceled}
use Rattle.hx_rules.specs.Replace.{replace_feed}
use Rattle.hx_rules.specs.Hours.{all_deleted}
use Rattle.hx_laws.specs.QuietChains.{Choice, reply_lines}
use Rattle.hx_laws.specs.QuietChains.Line.{ToMember}
use Rattle.hx_laws.specs.Laws.{IsUnknownTo}
use Rattle.hx_laws.proofs.Quiet.QuietBefore.{not_both}
use Rattle.hx_laws.proofs.Quiet.RetainedViews.{none, blank, retained, blank_executions}
use Rattle.hx_laws.proofs.Quiet.RetainedWords.{feed_of_executions-blank}
use Rattle.hx_laws.proofs.Quiet.AlikeArrivals.{length-blank}

pub reply_lines-append : (see : ℕ → Bool) (xs ys : List Reply) → reply_lines see (xs ++ ys) ≡ reply_lines see xs ++ reply_lines see ys
reply_lines-append see [] ys = refl
reply_lines-append see (x ∷ xs) ys = rw (reply_lines-append see xs ys) (choose (see x.0))
  where
    choose : (b : Bool) → cond b (ToMember x.0 x.1 ∷ (reply_lines see xs ++ reply_lines see ys)) (reply_lines see xs ++ reply_lines see ys)
        ≡ cond b (ToMember x.0 x.1 ∷ reply_lines see xs) (reply_lines see xs) ++ reply_lines see ys
    choose true = refl
    choose false = refl

-- a first reply that is the same if it is seen
pub same_first : (see : ℕ → Bool) (m : ℕ) (x y : Outbound) (xs ys : List Reply) → (see m ≡ true → x ≡ y) → reply_lines see xs ≡ reply_lines see ys
    → reply_lines see ((m, x) ∷ xs) ≡ reply_lines see ((m, y) ∷ ys)
same_first see m x y xs ys e h = choose (see m) refl
  where
    choose : (b : Bool) → see m ≡ b → cond b (ToMember m x ∷ reply_lines see xs) (reply_lines see xs) ≡ cond b (ToMember m y ∷ reply_lines see ys) (reply_lines see ys)
    choose true f = rw (e f, h) refl
    choose false f = h

pub unseen_first : (see : ℕ → Bool) (m : ℕ) (x : Outbound) (xs : List Reply) → see m ≡ false → reply_lines see xs ≡ [] → reply_lines see ((m, x) ∷ xs) ≡ []
unseen_first see m x xs e h = rw (e, h) refl

-- Published messages show nothing that is blanked.

published-blank : (time : ℕ) (stock : Symbol) (x : Order) → x.shown ≡ true → published time stock (blank true x) ≡ published time stock x
published-blank time stock x e = rw e refl

shown_published : (time : ℕ) (stock : Symbol) (xs : List Order) → map (published time stock) (shown_of (retained true none xs)) ≡ map (published time stock) (shown_of xs)
shown_published time stock [] = refl
shown_published time stock (x ∷ xs) = choose x.shown refl (shown_published time stock xs)
  where
    choose : (b : Bool) → x.shown ≡ b → map (published time stock) (shown_of (retained true none xs)) ≡ map (published time stock) (shown_of xs)
        → map (published time stock) (cond b (blank true x ∷ shown_of (retained true none xs)) (shown_of (retained true none xs)))
        ≡ map (published time stock) (cond b (x ∷ shown_of xs) (shown_of xs))
    choose true e ih = rw (ih, published-blank time stock x e) refl
    choose false e ih = ih

arrival_feed-blank : (time : ℕ) (stock : Symbol) (n : ℕ) (es : List Execution) (xs : List Order)
    → arrival_feed time stock n es xs ≡ arrival_feed time stock n (blank_executions true es) (retained true none xs)
arrival_feed-blank time stock n es xs = rw (← feed_of_executions-blank time stock n es, shown_published time stock xs) refl

pub deleted-blank : (time : ℕ) (x : Order) → deleted time (blank true x) ≡ deleted time x
deleted-blank time x = choose x.shown
  where
    output : ℕ → List Feed
    output r = OrderDelete (record { locate = x.locate; time = time; reference = r }) ∷ []

    choose : (b : Bool) → cond b (output (cond (not b && true) 0 x.reference)) [] ≡ cond b (output x.reference) []
    choose true = refl
    choose false = refl

replace_feed-blank : (time : ℕ) (stock : Symbol) (n : ℕ) (old x : Order) (es : List Execution) (xs : List Order)
    → replace_feed time stock n old x es xs ≡ replace_feed time stock n (blank true old) (blank true x) (blank_executions true es) (retained true none xs)
replace_feed-blank time stock n old x es xs = rw (length-blank es, ← arrival_feed-blank time stock n es xs, deleted-blank time old) (choose old.shown x.shown)
  where
    alone : Bool
    alone = ltb (length es) 1

    output : ℕ → ℕ → List Feed
    output r k = OrderReplace (record { locate = x.locate; time = time; original_reference = r; reference = k; shares = x.shares; price = x.price }) ∷ []

    both : List Feed
    both = deleted time old ++ arrival_feed time stock n es xs

    choose : (b c : Bool)
        → cond ((b && (c && (old.display == x.display))) && alone) (output old.reference x.reference) both
        ≡ cond ((b && (c && (old.display == x.display))) && alone) (output (cond (not b && true) 0 old.reference) (cond (not c && true) 0 x.reference)) both
    choose true true = refl
    choose true false = refl
    choose false c = refl

pub taken_off-blank : (time by : ℕ) (x : Order) → taken_off time by (blank true x) ≡ taken_off time by x
taken_off-blank time by x = choose x.shown
  where
    cancel : ℕ → List Feed
    cancel r = OrderCancel (record { locate = x.locate; time = time; reference = r; shares = by }) ∷ []

    delete : ℕ → List Feed
    delete r = OrderDelete (record { locate = x.locate; time = time; reference = r }) ∷ []

    choose : (b : Bool)
        → cond (ltb by x.shares) (cond b (cancel (cond (not b && true) 0 x.reference)) []) (cond b (delete (cond (not b && true) 0 x.reference)) [])
        ≡ cond (ltb by x.shares) (cond b (cancel x.reference) []) (cond b (delete x.reference) [])
    choose true = refl
    choose false = refl

-- the same is published if only what is blanked differs
pub arrival_feed_same : (time : ℕ) (stock : Symbol) (n k : ℕ) (es fs : List Execution) (xs ys : List Order) → n ≡ k → blank_executions true es ≡ blank_executions true fs → retained true none xs ≡ retained true none ys
    → arrival_feed time stock n es xs ≡ arrival_feed time stock k fs ys
arrival_feed_same time stock n k es fs xs ys e f g =
    arrival_feed-blank time stock n es xs ∙ (rw (e, f, g) refl) ∙ sym (arrival_feed-blank time stock k fs ys)

pub replace_feed_same : (time : ℕ) (stock : Symbol) (n k : ℕ) (old past x y : Order) (es fs : List Execution) (xs ys : List Order) → n ≡ k → blank true old ≡ blank true past → blank true x ≡ blank true y
    → blank_executions true es ≡ blank_executions true fs → retained true none xs ≡ retained true none ys → replace_feed time stock n old x es xs ≡ replace_feed time stock k past y fs ys
replace_feed_same time stock n k old past x y es fs xs ys e o p f g =
    replace_feed-blank time stock n old x es xs
    ∙ ap (λ (z : Order). replace_feed time stock n z (blank true x) (blank_executions true es) (retained true none xs)) o
    ∙ ap (λ (z : Order). replace_feed time stock n (blank true past) z (blank_executions true es) (retained true none xs)) p
    ∙ (rw (e, f, g) (sym (replace_feed-blank time stock k past y fs ys)))

-- Orders end, of which the chosen ones are hidden and not seen.

abbrev pub IsHidden : Choice → Order → Type 0
IsHidden s x = s x.member x.token ≡ true → x.shown ≡ false

hidden_deleted : (time : ℕ) (x : Order) (xs : List Order) → x.shown ≡ false → all_deleted time (x ∷ xs) ≡ all_deleted time xs
hidden_deleted time x xs e = rw e refl

-- a test that does not look at what is blanked
abbrev pub LooksPast : (Order → Bool) → Type 0
LooksPast due = (x : Order) → due (blank true x) ≡ due x

pub deleted_retained : (s : Choice) (due : Order → Bool) → LooksPast due → (time : ℕ) (xs : List Order) → AllByRecursion (IsHidden s) xs
    → all_deleted time (filter due xs) ≡ all_deleted time (filter due (retained true s xs))
deleted_retained s due same time [] h = refl
deleted_retained s due same time (x ∷ xs) h = choose (deleted_retained s due same time xs h.1) (due x) refl (s x.member x.token) refl
  where
    choose : all_deleted time (filter due xs) ≡ all_deleted time (filter due (retained true s xs)) → (b : Bool) → due x ≡ b → (k : Bool) → s x.member x.token ≡ k
        → all_deleted time (cond b (x ∷ filter due xs) (filter due xs)) ≡ all_deleted time (filter due (cond k (retained true s xs) (blank true x ∷ retained true s xs)))
    choose ih true f true g = hidden_deleted time x (filter due xs) (h.0 g) ∙ ih
    choose ih true f false g = rw (same x, f, ih, ← deleted-blank time x) refl
    choose ih false f true g = ih
    choose ih false f false g = rw (same x, f) ih

-- to the order's member: it has ended
abbrev pub ended : ℕ → Order → Reply
ended time x = canceled time x.member x.token x.shares 84

pub ended_retained : (see : ℕ → Bool) (s : Choice) → IsUnknownTo see s → (due : Order → Bool) → LooksPast due → (time : ℕ) (xs : List Order)
    → reply_lines see (map (ended time) (filter due xs)) ≡ reply_lines see (map (ended time) (filter due (retained true s xs)))
ended_retained see s blind due same time [] = refl
ended_retained see s blind due same time (x ∷ xs) = choose (ended_retained see s blind due same time xs) (due x) refl (s x.member x.token) refl
  where
    unseen : (b : Bool) → see x.member ≡ b → s x.member x.token ≡ true → see x.member ≡ false
    unseen true f g = not_both _ g (blind x.member f x.token)
    unseen false f g = f

    choose : reply_lines see (map (ended time) (filter due xs)) ≡ reply_lines see (map (ended time) (filter due (retained true s xs))) → (b : Bool) → due x ≡ b → (k : Bool) → s x.member x.token ≡ k
        → reply_lines see (map (ended time) (cond b (x ∷ filter due xs) (filter due xs))) ≡ reply_lines see (map (ended time) (filter due (cond k (retained true s xs) (blank true x ∷ retained true s xs))))
    choose ih true f true g = rw (unseen (see x.member) refl g) ih
    choose ih true f false g = rw (same x, f, ih) refl
    choose ih false f true g = ih
    choose ih false f false g = rw (same x, f) ih
