-- The entries of a pass in a history.
use Rattle.std.proofs.Common.{◌≡◌, inl, inr, ℕ, suc, ◌+◌, ◌-◌, ◌<◌, ◌≤◌, Bool, true, false, cond, eqb, eqb-true, eq-eqb, List, [], ◌∷◌, ◌++◌, length, slice_get, Some, refl, ap, sym, ◌∙◌, subst, arith}
use Rattle.std.specs.List.{AllByRecursion}
use Rattle.std.proofs.lemmas.List.{map-append}
use mathlib.Core.List.{IsPrefix}
use Rattle.hx_blog.specs.Feed.{Entries}
use Rattle.hx_members.specs.Setups.{Setup}
use Rattle.hx_rules.specs.declared.event.Event.{Event}
use Rattle.hx_market.specs.Markets.{Market, opening}
use Rattle.hx_market.specs.Steps.{step}
use Rattle.hx_desk.specs.declared.entry.Entry.{Entry}
use Rattle.hx_desk.specs.Entries.{ledger_from, ledger}
use Rattle.hx_desk.specs.Known.{history_of}
use Rattle.hx_engine.specs.Passes.{Sent, sent_from, sent_in, sent_by, placed, AreSomeOf, StandsAt}

-- Some of a list.

pub some_of_more : (xs ys zs : List Sent) → AreSomeOf xs ys → AreSomeOf xs (ys ++ zs)
some_of_more xs [] zs h = none zs xs h
  where
    none : (zs xs : List Sent) → xs ≡ [] → AreSomeOf xs zs
    none [] xs h = h
    none (z ∷ zs) xs h = inl (none zs xs h)
some_of_more xs (y ∷ ys) zs h = elim h [ inl g ↦ inl (some_of_more xs ys zs g) | inr g ↦ inr (g.0, g.1, some_of_more g.0 ys zs g.2) ]

pub some_of_both : (xs ys zs : List Sent) → AreSomeOf xs ys → AreSomeOf (xs ++ zs) (ys ++ zs)
some_of_both xs [] zs h = subst (λ (v : List Sent). AreSomeOf (v ++ zs) zs) (sym h) (all zs)
  where
    all : (zs : List Sent) → AreSomeOf zs zs
    all [] = refl
    all (z ∷ zs) = inr (zs, refl, all zs)
some_of_both xs (y ∷ ys) zs h = elim h [ inl g ↦ inl (some_of_both xs ys zs g) | inr g ↦ inr (g.0 ++ zs, ap (λ (v : List Sent). v ++ zs) g.1, some_of_both g.0 ys zs g.2) ]

pub all_of_some : (P : Sent → Type 0) (xs ys : List Sent) → AreSomeOf xs ys → AllByRecursion P ys → AllByRecursion P xs
all_of_some P xs [] h all = subst (AllByRecursion P) (sym h) tt
all_of_some P xs (y ∷ ys) h all =
    elim h [
      | inl g ↦ all_of_some P xs ys g all.1
      | inr g ↦ subst (AllByRecursion P) (sym g.1) (all.0, all_of_some P g.0 ys g.2 all.1)
    ]

pub some_length : (xs ys : List Sent) → AreSomeOf xs ys → length xs ≤ length ys
some_length xs [] h = omega (arith, ap (λ (v : List Sent). length v) h)
some_length xs (y ∷ ys) h = elim h [ inl g ↦ omega (arith, some_length xs ys g) | inr g ↦ omega (arith, ap (λ (v : List Sent). length v) g.1, some_length g.0 ys g.2) ]

-- some of a list that are no fewer are all of it
pub some_all : (xs ys : List Sent) → AreSomeOf xs ys → length ys ≤ length xs → xs ≡ ys
some_all xs [] h l = h
some_all xs (y ∷ ys) h l =
    elim h [
      | inl g ↦ absurd (omega (arith, some_length xs ys g))
      | inr g ↦ g.1 ∙ ap (λ (v : List Sent). y ∷ v) (some_all g.0 ys g.2 (omega (arith, ap (λ (v : List Sent). length v) g.1)))
    ]

-- The entries of a pass.

pub sent_append : (n k : ℕ) (xs ys : List Entry) → sent_from n k (xs ++ ys) ≡ sent_from n k xs ++ sent_from n (k + length xs) ys
sent_append n k [] ys = ap (λ j. sent_from n j ys) (let e : k ≡ k + 0 = omega arith in e)
sent_append n k (x ∷ xs) ys =
    at (eqb x.pass n) (sent_append n (k + 1) xs ys ∙ ap (λ j. sent_from n (k + 1) xs ++ sent_from n j ys) (let e : k + 1 + length xs ≡ k + suc (length xs) = omega arith in e))
  where
    at : (b : Bool) → sent_from n (k + 1) (xs ++ ys) ≡ sent_from n (k + 1) xs ++ sent_from n (k + suc (length xs)) ys
        → cond b ((k, x.event) ∷ sent_from n (k + 1) (xs ++ ys)) (sent_from n (k + 1) (xs ++ ys)) ≡ cond b ((k, x.event) ∷ sent_from n (k + 1) xs) (sent_from n (k + 1) xs) ++ sent_from n (k + suc (length xs)) ys
    at true rest = ap (λ (l : List Sent). (k, x.event) ∷ l) rest
    at false rest = rest

-- what is known of a longer history
pub more_known : (n : ℕ) (sent : List Sent) (xs ys : Entries Entry) → IsPrefix xs ys → AreSomeOf sent (sent_in n (history_of xs)) → AreSomeOf sent (sent_in n (history_of ys))
more_known n sent xs ys p h =
    let rest = history_of p.0 in
    subst (λ (l : List Entry). AreSomeOf sent (sent_in n l)) (sym (map-append (λ (x : Entry × List (List ℕ)). x.0) xs p.0) ∙ ap history_of p.1)
    (subst (AreSomeOf sent) (sym (sent_append n 1 (history_of xs) rest)) (some_of_more sent (sent_in n (history_of xs)) (sent_from n (1 + length (history_of xs)) rest) h))

-- entries more under this number

all_placed : (n k : ℕ) (events : List Event) → sent_from n (k + 1) (sent_by n events) ≡ placed k events
all_placed n k [] = refl
all_placed n k (e ∷ events) =
    ap (λ b. cond b ((k + 1, e) ∷ sent_from n (k + 1 + 1) (sent_by n events)) (sent_from n (k + 1 + 1) (sent_by n events))) (eq-eqb n n refl) ∙ ap (λ (l : List Sent). (k + 1, e) ∷ l) (all_placed n (k + 1) events)

pub all_sent : (n : ℕ) (sent : List Sent) (history : List Entry) (events : List Event) → AreSomeOf sent (sent_in n history)
    → AreSomeOf (sent ++ placed (length history) events) (sent_in n (history ++ sent_by n events))
all_sent n sent history events h =
    let last : sent_from n (1 + length history) (sent_by n events) ≡ placed (length history) events =
    ap (λ j. sent_from n j (sent_by n events)) (let e : 1 + length history ≡ length history + 1 = omega arith in e) ∙ all_placed n (length history) events in
    subst (AreSomeOf (sent ++ placed (length history) events))
    (ap (λ (l : List Sent). sent_in n history ++ l) (sym last) ∙ sym (sent_append n 1 history (sent_by n events)))
    (some_of_both sent (sent_in n history) (placed (length history) events) h)

weaker : (P Q : Sent → Type 0) (xs : List Sent) → ((x : Sent) → P x → Q x) → AllByRecursion P xs → AllByRecursion Q xs
weaker P Q [] f h = tt
weaker P Q (x ∷ xs) f h = (f x h.0, weaker P Q xs f h.1)

-- the event's entry is at index `x.0` of the history, whose first entry has the index `k`
abbrev After : ℕ → ℕ → List Entry → Sent → Type 0
After n k history x = (k ≤ x.0) × (x.0 < k + length history) × (slice_get history (x.0 - k) ≡ Some (record { pass = n; event = x.1 }))

after_more : (n k : ℕ) (e : Entry) (history : List Entry) (x : Sent) → After n (k + 1) history x → After n k (e ∷ history) x
after_more n k e history x h =
    let l = h.0 in
    let m = h.1 in
    (omega arith, omega arith, ap (λ j. slice_get (e ∷ history) j) (let z : x.0 - k ≡ suc (x.0 - (k + 1)) = omega arith in z) ∙ h.2)

all_after : (n k : ℕ) (history : List Entry) → AllByRecursion (After n k history) (sent_from n k history)
all_after n k [] = tt
all_after n k (e ∷ history) =
    at (eqb e.pass n) refl (weaker (After n (k + 1) history) (After n k (e ∷ history)) (sent_from n (k + 1) history) (after_more n k e history) (all_after n (k + 1) history))
  where
    first : e.pass ≡ n → After n k (e ∷ history) (k, e.event)
    first same =
        (omega arith, omega arith, ap (λ j. slice_get (e ∷ history) j) (let z : k - k ≡ 0 = omega arith in z) ∙ ap (λ (m : ℕ). Some (record { pass = m; event = e.event })) same)

    at : (b : Bool) → eqb e.pass n ≡ b → AllByRecursion (After n k (e ∷ history)) (sent_from n (k + 1) history)
        → AllByRecursion (After n k (e ∷ history)) (cond b ((k, e.event) ∷ sent_from n (k + 1) history) (sent_from n (k + 1) history))
    at true is rest = (first (eqb-true e.pass n is), rest)
    at false is rest = rest

pub stand_at : (n : ℕ) (sent : List Sent) (history : List Entry) → AreSomeOf sent (sent_in n history) → AllByRecursion (StandsAt n history) sent
stand_at n sent history h =
    weaker (After n 1 history) (StandsAt n history) sent (λ x g. (g.0, g.2)) (all_of_some (After n 1 history) sent (sent_in n history) h (all_after n 1 history))

pub are_below : (n : ℕ) (sent : List Sent) (history : List Entry) (position : ℕ) → position ≡ length history + 1 → AreSomeOf sent (sent_in n history) → AllByRecursion (λ x. x.0 < position) sent
are_below n sent history position is h =
    weaker (After n 1 history) (λ x. x.0 < position) sent (λ x g. let l = g.1 in omega arith) (all_of_some (After n 1 history) sent (sent_in n history) h (all_after n 1 history))

-- The history of a ledger.

published_by : (setup : Setup) (a : Market) (history : List Entry) → history_of (ledger_from setup a history) ≡ history
unfolding ledger_from
published_by setup a [] = refl
published_by setup a (e ∷ history) = ap (λ (l : List Entry). e ∷ l) (published_by setup (step setup a e.event).market history)

pub history_of_ledger : (setup : Setup) (history : List Entry) → history_of (ledger setup history) ≡ history
unfolding ledger
history_of_ledger setup history = published_by setup (opening setup) history
