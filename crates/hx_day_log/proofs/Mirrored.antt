-- Records that are appended to a mirror, group by group.
use Rattle.std.proofs.Common.{◌≡◌, ◌≤◌, ◌<◌, ◌-◌, true, ℕ, zero, suc, Bool, List, [], ◌∷◌, ◌++◌, length, take, drop, map, refl, sym, ap, ◌∙◌, append_assoc, length-drop, arith}
use Rattle.std.proofs.lemmas.List.{append-nil, map-append}
use Rattle.std.proofs.Math.ListN.{drop_of_length-le}
use Rattle.hx_rules.specs.declared.event.Event.{Event}
use Rattle.hx_tape_lines.specs.Text.{record_of}
use Rattle.hx_desk.specs.Entries.{restored}
use Rattle.hx_engine.specs.Journals.{lines}
use Rattle.hx_recovery.proofs.Restored.{lines_restored}
use Rattle.hx_fenced_log.specs.Mirrors.{Mirrors}
use Rattle.hx_day_log.specs.Mirrored.{IsBeside}

-- the records of the first events, and of the others
cut : (n : ℕ) (events : List Event) → map record_of (take n events) ++ map record_of (drop n events) ≡ map record_of events
cut zero events = refl
cut (suc n) [] = refl
cut (suc n) (e ∷ events) = ap (λ (l : List (List ℕ)). record_of e ∷ l) (cut n events)

-- the first of a list that has one
abbrev first : List (List ℕ) → List ℕ
first [] = []
first (r ∷ records) = r

take_all : (n : ℕ) (events : List Event) → length events ≤ n → take n events ≡ events
take_all zero [] few = refl
take_all (suc n) [] few = refl
take_all zero (e ∷ events) few = absurd (omega (arith, few))
take_all (suc n) (e ∷ events) few = ap (λ (l : List Event). e ∷ l) (take_all n events (omega (arith, few)))

-- another group is durable
pub group_durable : (rest front back : List Event) (was now after start : List (List ℕ)) (n : ℕ) → front ≡ take n rest → back ≡ drop n rest → was ++ map record_of rest ≡ start
    → now ≡ was ++ map record_of front → after ≡ now → after ++ map record_of back ≡ start
group_durable rest front back was now after start n first others all more same =
    ap (λ (l : List (List ℕ)). l ++ map record_of back) (same ∙ more) ∙ append_assoc was (map record_of front) (map record_of back)
    ∙ ap (λ (l : List Event). was ++ (map record_of l ++ map record_of back)) first ∙ ap (λ (l : List Event). was ++ (map record_of (take n rest) ++ map record_of l)) others
    ∙ ap (λ (l : List (List ℕ)). was ++ l) (cut n rest) ∙ all

-- a list is dropped in two steps
abbrev none_of : List Event
none_of = []

drop_nil : (n : ℕ) → drop n none_of ≡ []
drop_nil zero = refl
drop_nil (suc n) = refl

drop_after : (applied events had : List Event) → drop (length (applied ++ events)) had ≡ drop (length events) (drop (length applied) had)
drop_after [] events had = refl
drop_after (p ∷ applied) events [] = sym (drop_nil (length events))
drop_after (p ∷ applied) events (h ∷ had) = drop_after applied events had

-- For two lists that have the same first records, as far as the shorter one goes: the one, and what the other has after
-- those, are the other, and what the one has after those.
spliced : (n : ℕ) (had events : List Event) → n ≤ length had → n ≤ length events → (n < length had → length events ≤ n) → map record_of (take n had) ≡ map record_of (take n events)
    → map record_of had ++ map record_of (drop n events) ≡ map record_of events ++ map record_of (drop (length events) had)
spliced zero [] events a b few same = sym (append-nil (map record_of events)) ∙ ap (λ (l : List Event). map record_of events ++ map record_of l) (sym (drop_nil (length events)))
spliced zero (h ∷ had) [] a b few same = append-nil (map record_of (h ∷ had))
spliced zero (h ∷ had) (e ∷ events) a b few same = absurd (omega (arith, few (omega arith)))
spliced (suc n) [] events a b few same = absurd (omega (arith, a))
spliced (suc n) (h ∷ had) [] a b few same = absurd (omega (arith, b))
spliced (suc n) (h ∷ had) (e ∷ events) a b few same =
    let rest : map record_of had ++ map record_of (drop n events) ≡ map record_of events ++ map record_of (drop (length events) had) =
    spliced n had events (omega (arith, a)) (omega (arith, b)) (λ less. omega (arith, few (omega (arith, less)))) (ap (drop 1) same) in
    λ i. first (same i) ∷ rest i

-- a journal beside a day is brought up to the applied events
pub brought_up : {M : Type 0} (appended of_durable : M → List (List ℕ)) (is_open : M → Bool) (mirror : M) (had applied now events : List Event) (before : List (List ℕ)) (n : ℕ)
    → before ≡ map record_of applied ++ map record_of (drop (length applied) had) → now ≡ applied ++ events
    → n ≤ length (drop (length applied) had) → n ≤ length events → (n < length (drop (length applied) had) → length events ≤ n)
    → map record_of (take n (drop (length applied) had)) ≡ map record_of (take n events)
    → Mirrors appended of_durable is_open mirror (before ++ map record_of (take (length events - n) (drop n events))) → IsBeside appended of_durable is_open mirror had now
brought_up appended of_durable is_open mirror had applied now events before n was more in_had in_events few same h =
    let rest : take (length events - n) (drop n events) ≡ drop n events = take_all (length events - n) (drop n events) (omega (arith, length-drop n events)) in
    let all : before ++ map record_of (take (length events - n) (drop n events)) ≡ map record_of now ++ map record_of (drop (length now) had) =
    ap (λ (l : List Event). before ++ map record_of l) rest ∙ ap (λ (l : List (List ℕ)). l ++ map record_of (drop n events)) was
    ∙ append_assoc (map record_of applied) (map record_of (drop (length applied) had)) (map record_of (drop n events))
    ∙ ap (λ (l : List (List ℕ)). map record_of applied ++ l) (spliced n (drop (length applied) had) events in_had in_events few same)
    ∙ sym (append_assoc (map record_of applied) (map record_of events) (map record_of (drop (length events) (drop (length applied) had))))
    ∙ ap (λ (l : List (List ℕ)). l ++ map record_of (drop (length events) (drop (length applied) had))) (sym (map-append record_of applied events))
    ∙ ap (λ (l : List Event). map record_of (applied ++ events) ++ map record_of l) (sym (drop_after applied events had))
    ∙ ap (λ (l : List Event). map record_of l ++ map record_of (drop (length l) had)) (sym more) in
    record { appended_is = h.appended_is ∙ all; durable_is = h.durable_is ∙ all; opened = h.opened }

-- one that has no more than the day is a mirror of it
pub mirrors_all : {M : Type 0} (appended of_durable : M → List (List ℕ)) (is_open : M → Bool) (mirror : M) (had applied : List Event) → length had ≤ length applied
    → IsBeside appended of_durable is_open mirror had applied → Mirrors appended of_durable is_open mirror (lines record_of (restored applied))
mirrors_all appended of_durable is_open mirror had applied few h =
    let all : map record_of applied ++ map record_of (drop (length applied) had) ≡ lines record_of (restored applied) =
    ap (λ (l : List Event). map record_of applied ++ map record_of l) (drop_of_length-le had few) ∙ append-nil (map record_of applied) ∙ sym (lines_restored applied) in
    record { appended_is = h.appended_is ∙ all; durable_is = h.durable_is ∙ all; opened = h.opened }

-- a journal beside a day without an applied event
pub beside_first : {M : Type 0} (appended of_durable : M → List (List ℕ)) (is_open : M → Bool) (mirror : M) (had applied : List Event) → applied ≡ []
    → appended mirror ≡ lines record_of (restored had) → of_durable mirror ≡ appended mirror → is_open mirror ≡ true → IsBeside appended of_durable is_open mirror had applied
beside_first appended of_durable is_open mirror had applied none is durable opened =
    let all : appended mirror ≡ map record_of applied ++ map record_of (drop (length applied) had) =
    is ∙ lines_restored had ∙ ap (λ (l : List Event). map record_of l ++ map record_of (drop (length l) had)) (sym none) in
    record { appended_is = all; durable_is = durable ∙ all; opened = opened }
