-- When all passes are back, each entry is one of theirs.
use Rattle.std.proofs.Common.{◌≡◌, ◌⊎◌, inl, inr, ℕ, zero, suc, ◌+◌, ◌<◌, ◌≤◌, Bool, true, false, cond, eqb, eqb-true, eq-eqb, List, [], ◌∷◌, ◌++◌, length, take, drop, refl, ap, sym, ◌∙◌, subst, arith, length-append}
use Rattle.std.proofs.lemmas.List.{take-append-drop, length-take-le}
use Rattle.std.specs.List.{AllByRecursion}
use mathlib.Core.List.{IsPrefix}
use Rattle.hx_blog.specs.Feed.{Entries}
use Rattle.hx_blog.specs.Feed as blog
use Rattle.hx_members.specs.Setups.{Setup}
use Rattle.hx_rules.specs.declared.event.Event.{Event}
use Rattle.hx_market.specs.Steps.{feed}
use Rattle.hx_laws.specs.Recorded.{AreRecorded}
use Rattle.hx_desk.specs.declared.entry.Entry.{Entry}
use Rattle.hx_desk.specs.Entries.{entry_of, restored, events_of, ledger}
use Rattle.hx_desk.specs.Known.{history_of}
use Rattle.hx_desk.specs.Desks.{DeskState, IsStanding, published_of}
use Rattle.hx_engine.specs.Passes.{PassState, sent_from, sent_in, AreSomeOf}
use Rattle.hx_engine.specs.Finish.{times_given, AreAllOnce, sent_by_all, is_any_waiting, IsReturned, IsFinished}
use Rattle.hx_desk.proofs.Standing.{published_is, take_whole}
use Rattle.hx_engine.proofs.Positions.{some_length, some_all}
use Rattle.hx_engine.proofs.PassLaws.{published_by, history_known}
use lib.ListN.{length-map}
use Rattle.hx_itch.specs.Message.{feed_bytes}

pub sent_more : (ps : List PassState) (p : PassState) → sent_by_all (ps ++ p ∷ []) ≡ sent_by_all ps + length p.sent
sent_more [] p = omega arith
sent_more (q ∷ ps) p = omega (arith, sent_more ps p)

pub all_more : (P : PassState → Type 0) (ps : List PassState) (p : PassState) → AllByRecursion P ps → P p → AllByRecursion P (ps ++ p ∷ [])
all_more P [] p a h = (h, tt)
all_more P (q ∷ ps) p a h = (a.0, all_more P ps p a.1 h)

-- none of these waits
pub none_waiting : (ps : List PassState) (p : PassState) → is_any_waiting (ps ++ p ∷ []) ≡ false → (is_any_waiting ps ≡ false) × (length p.waiting ≡ 0)
none_waiting [] p h = (refl, here (eqb (length p.waiting) 0) refl h)
  where
    here : (b : Bool) → eqb (length p.waiting) 0 ≡ b → cond b false true ≡ false → length p.waiting ≡ 0
    here true e h = eqb-true (length p.waiting) 0 e
    here false e h = absurd (let z : true ≡ false = h in cc)
none_waiting (q ∷ ps) p h = at (eqb (length q.waiting) 0) (none_waiting ps p) h
  where
    at : (b : Bool) → (is_any_waiting (ps ++ p ∷ []) ≡ false → (is_any_waiting ps ≡ false) × (length p.waiting ≡ 0)) → cond b (is_any_waiting (ps ++ p ∷ [])) true ≡ false
        → (cond b (is_any_waiting ps) true ≡ false) × (length p.waiting ≡ 0)
    at true rest h = rest h
    at false rest h = absurd (let z : true ≡ false = h in cc)

weaker_all : (P Q : PassState → Type 0) (ps : List PassState) → ((p : PassState) → P p → Q p) → AllByRecursion P ps → AllByRecursion Q ps
weaker_all P Q [] f a = tt
weaker_all P Q (p ∷ ps) f a = (f p a.0, weaker_all P Q ps f a.1)

-- The number of passes is the number of pass numbers.

sum_to : ℕ → (ℕ → ℕ) → ℕ
sum_to zero f = 0
sum_to (suc n) f = sum_to n f + f (suc n)

-- 1 if a number is m, else 0
abbrev at_number : ℕ → ℕ → ℕ
at_number m k = cond (eqb k m) 1 0

not_at : (m k : ℕ) → (k ≡ m → ⊥) → at_number m k ≡ 0
not_at m k ne = at (eqb k m) refl
  where
    at : (b : Bool) → eqb k m ≡ b → ◌≡◌ {A = ℕ} (cond b 1 0) 0
    at true e = absurd (ne (eqb-true k m e))
    at false e = refl

sum_above : (n m : ℕ) → n < m → sum_to n (at_number m) ≡ 0
unfolding sum_to
sum_above zero m l = refl
sum_above (suc n) m l = omega (arith, sum_above n m (omega arith), not_at m (suc n) (λ e. omega arith))

sum_one : (n m : ℕ) → 1 ≤ m → m ≤ n → sum_to n (at_number m) ≡ 1
unfolding sum_to
sum_one zero m f l = absurd (omega arith)
sum_one (suc n) m f l = elim (split m (suc n) l) [
  | inl h ↦ omega (arith, sum_one n m f (omega arith), not_at m (suc n) (λ e. omega arith))
  | inr e ↦ omega (arith, sum_above n m (omega arith), ap {B = ℕ} (λ (b : Bool). cond b 1 0) (eq-eqb (suc n) m (sym e)))
]
  where
    split : (k n : ℕ) → k ≤ n → (k < n) ⊎ (k ≡ n)
    split zero zero l = inr refl
    split zero (suc n) l = inl (omega arith)
    split (suc k) zero l = absurd (omega arith)
    split (suc k) (suc n) l = elim (split k n (omega arith)) [ inl h ↦ inl (omega arith) | inr e ↦ inr (ap (λ j. suc j) e) ]

sum_both : (n : ℕ) (f g : ℕ → ℕ) → sum_to n (λ k. f k + g k) ≡ sum_to n f + sum_to n g
unfolding sum_to
sum_both zero f g = refl
sum_both (suc n) f g = omega (arith, sum_both n f g)

sum_none : (n : ℕ) → sum_to n (λ k. 0) ≡ 0
unfolding sum_to
sum_none zero = refl
sum_none (suc n) = omega (arith, sum_none n)

given_in_all : (n : ℕ) (ps : List PassState) → AllByRecursion (λ p. (1 ≤ p.number) × (p.number ≤ n)) ps → sum_to n (λ k. times_given k ps) ≡ length ps
given_in_all n [] a = sum_none n
given_in_all n (p ∷ ps) a =
    sum_both n (at_number p.number) (λ k. times_given k ps) ∙ omega (arith, sum_one n p.number a.0.0 a.0.1, given_in_all n ps a.1)

sum_of_ones : (n : ℕ) (f : ℕ → ℕ) → ((k : ℕ) → 1 ≤ k → k ≤ n → f k ≡ 1) → sum_to n f ≡ n
unfolding sum_to
sum_of_ones zero f h = refl
sum_of_ones (suc n) f h = omega (arith, sum_of_ones n f (λ k a b. h k a (omega arith)), h (suc n) (omega arith) (omega arith))

pub all_given : (n : ℕ) (published : Entries Entry) (ps : List PassState) → AllByRecursion (IsReturned n published) ps → AreAllOnce n ps → length ps ≡ n
all_given n published ps a once =
    sym (given_in_all n ps (weaker_all (IsReturned n published) (λ p. (1 ≤ p.number) × (p.number ≤ n)) ps (λ p r. (r.first, r.last)) a)) ∙ sum_of_ones n (λ k. times_given k ps) once

-- a number is given at most once
never_given : (n k : ℕ) (ps : List PassState) → n < k → AllByRecursion (λ p. p.number ≤ n) ps → times_given k ps ≡ 0
never_given n k [] l a = refl
never_given n k (p ∷ ps) l a = let b = a.0 in omega (arith, not_at p.number k (λ e. omega arith), never_given n k ps l a.1)

none_given : (ps : List PassState) → AllByRecursion (λ p. 1 ≤ p.number) ps → times_given 0 ps ≡ 0
none_given [] a = refl
none_given (p ∷ ps) a = let b = a.0 in omega (arith, not_at p.number 0 (λ e. omega arith), none_given ps a.1)

once_at_most : (n : ℕ) (published : Entries Entry) (ps : List PassState) → AllByRecursion (IsReturned n published) ps → AreAllOnce n ps → (k : ℕ) → times_given k ps ≤ 1
once_at_most n published ps a once zero = omega (arith, none_given ps (weaker_all (IsReturned n published) (λ p. 1 ≤ p.number) ps (λ p r. r.first) a))
once_at_most n published ps a once (suc k) = at (below (suc k) n)
  where
    below : (k n : ℕ) → (k ≤ n) ⊎ (n < k)
    below zero n = inl (omega arith)
    below (suc k) zero = inr (omega arith)
    below (suc k) (suc n) = elim (below k n) [ inl h ↦ inl (omega arith) | inr h ↦ inr (omega arith) ]

    at : (suc k ≤ n) ⊎ (n < suc k) → times_given (suc k) ps ≤ 1
    at (inl h) = omega (arith, once (suc k) (omega arith) h)
    at (inr h) = omega (arith, never_given n (suc k) ps h (weaker_all (IsReturned n published) (λ p. p.number ≤ n) ps (λ p r. r.last) a))

-- The entries of all these passes in a history.

entries_of_all : ℕ → List PassState → List Entry → ℕ
entries_of_all k [] history = 0
entries_of_all k (p ∷ ps) history = length (sent_from p.number k history) + entries_of_all k ps history

one_entry : (n k : ℕ) (e : Entry) (history : List Entry) → length (sent_from n k (e ∷ history)) ≡ cond (eqb e.pass n) 1 0 + length (sent_from n (k + 1) history)
one_entry n k e history = at (eqb e.pass n)
  where
    at : (b : Bool) → ◌≡◌ {A = ℕ} (length (cond b ((k, e.event) ∷ sent_from n (k + 1) history) (sent_from n (k + 1) history))) (cond b 1 0 + length (sent_from n (k + 1) history))
    at true = omega arith
    at false = omega arith

one_entry_of_all : (k : ℕ) (ps : List PassState) (e : Entry) (history : List Entry) → entries_of_all k ps (e ∷ history) ≡ times_given e.pass ps + entries_of_all (k + 1) ps history
unfolding entries_of_all
one_entry_of_all k [] e history = refl
one_entry_of_all k (p ∷ ps) e history = omega (arith, one_entry p.number k e history, one_entry_of_all k ps e history)

no_entries : (k : ℕ) (ps : List PassState) → entries_of_all k ps [] ≡ 0
unfolding entries_of_all
no_entries k [] = refl
no_entries k (p ∷ ps) = omega (arith, no_entries k ps)

at_most_all : (k : ℕ) (ps : List PassState) (history : List Entry) → ((n : ℕ) → times_given n ps ≤ 1) → entries_of_all k ps history ≤ length history
at_most_all k ps [] once = omega (arith, no_entries k ps)
at_most_all k ps (e ∷ history) once = omega (arith, one_entry_of_all k ps e history, once e.pass, at_most_all (k + 1) ps history once)

sent_at_most : (history : List Entry) (ps : List PassState) → AllByRecursion (λ p. AreSomeOf p.sent (sent_in p.number history)) ps → sent_by_all ps ≤ entries_of_all 1 ps history
unfolding entries_of_all
sent_at_most history [] a = omega arith
sent_at_most history (p ∷ ps) a = omega (arith, some_length p.sent (sent_in p.number history) a.0, sent_at_most history ps a.1)

all_sent : (history : List Entry) (ps : List PassState) → AllByRecursion (λ p. AreSomeOf p.sent (sent_in p.number history)) ps → entries_of_all 1 ps history ≤ sent_by_all ps
    → AllByRecursion (λ p. p.sent ≡ sent_in p.number history) ps
unfolding entries_of_all
all_sent history [] a l = tt
all_sent history (p ∷ ps) a l =
    let here = some_length p.sent (sent_in p.number history) a.0 in
    let rest = sent_at_most history ps a.1 in
    (some_all p.sent (sent_in p.number history) a.0 (omega arith), all_sent history ps a.1 (omega arith))

-- an entry of no pass counts for none of these passes
nobodys : (k : ℕ) (ps : List PassState) (events : List Event) (rest : List Entry) → times_given 0 ps ≡ 0 → entries_of_all k ps (restored events ++ rest) ≡ entries_of_all (k + length events) ps rest
nobodys k ps [] rest none = ap (λ j. entries_of_all j ps rest) (let e : k ≡ k + 0 = omega arith in e)
nobodys k ps (x ∷ events) rest none =
    one_entry_of_all k ps (entry_of 0 x) (restored events ++ rest)
    ∙ ap (λ n. n + entries_of_all (k + 1) ps (restored events ++ rest)) none
    ∙ (let e : 0 + entries_of_all (k + 1) ps (restored events ++ rest) ≡ entries_of_all (k + 1) ps (restored events ++ rest) = omega arith in e)
    ∙ nobodys (k + 1) ps events rest none
    ∙ ap (λ j. entries_of_all j ps rest) (let e : k + 1 + length events ≡ k + suc (length events) = omega arith in e)

no_pass_is_0 : (n : ℕ) (published : Entries Entry) (ps : List PassState) → AllByRecursion (IsReturned n published) ps → times_given 0 ps ≡ 0
no_pass_is_0 n published ps a = none_given ps (weaker_all (IsReturned n published) (λ p. 1 ≤ p.number) ps (λ p r. r.first) a)

-- the whole history is published
pub all_published : (setup : Setup) (before : List Event) (d : DeskState) (n : ℕ) (ps : List PassState) → IsStanding d → d.setup ≡ setup → AllByRecursion (IsReturned n d.published) ps
    → AreAllOnce n ps → length d.history ≡ length before + sent_by_all ps → take (length before) (published_of d) ≡ restored before → published_of d ≡ d.history
all_published setup before d n ps s of_setup returned once counted began =
    let published_end : List Entry = published_of d in
    let rest : List Entry = drop (length before) published_end in
    let known : history_of d.published ≡ published_end = history_known d d.published s refl in
    let some : AllByRecursion (λ p. AreSomeOf p.sent (sent_in p.number published_end)) ps =
    weaker_all (IsReturned n d.published) (λ p. AreSomeOf p.sent (sent_in p.number published_end)) ps (λ p r. subst (λ (h : List Entry). AreSomeOf p.sent (sent_in p.number h)) known r.sent) returned in
    let parts : restored before ++ rest ≡ published_end = ap (λ (l : List Entry). l ++ rest) (sym began) ∙ take-append-drop (length before) published_end in
    let long : length published_end ≡ length before + length rest = sym (ap (λ (l : List Entry). length l) parts) ∙ length-append (restored before) rest ∙ ap (λ k. k + length rest) (length-map before (entry_of 0)) in
    let entries : entries_of_all 1 ps published_end ≤ length rest =
    omega (arith, ap (λ (l : List Entry). entries_of_all 1 ps l) (sym parts), nobodys 1 ps before rest (no_pass_is_0 n d.published ps returned), at_most_all (1 + length before) ps rest (once_at_most n d.published ps returned once)) in
    let sent : sent_by_all ps ≤ entries_of_all 1 ps published_end = sent_at_most published_end ps some in
    let whole : d.published_end ≡ length d.history = omega (arith, counted, long, entries, sent, length-take-le d.published_end d.history (omega (arith, s.order, s.within)), s.order, s.within) in
    take_whole d.history d.published_end whole

pub finished : (setup : Setup) (before : List Event) (d : DeskState) (n : ℕ) (ps : List PassState) (history : List Entry) (messages : ℕ) → IsStanding d → d.setup ≡ setup → AllByRecursion (IsReturned n d.published) ps
    → AreAllOnce n ps → length d.history ≡ length before + sent_by_all ps → take (length before) (published_of d) ≡ restored before → history ≡ d.history → messages ≡ length (blog.feed d.published)
    → IsFinished setup before ps history messages
finished setup before d n ps history messages s of_setup returned once counted began same count =
    let published_end : List Entry = published_of d in
    let rest : List Entry = drop (length before) published_end in
    let known : history_of d.published ≡ published_end = history_known d d.published s refl in
    let some : AllByRecursion (λ p. AreSomeOf p.sent (sent_in p.number published_end)) ps =
    weaker_all (IsReturned n d.published) (λ p. AreSomeOf p.sent (sent_in p.number published_end)) ps (λ p r. subst (λ (h : List Entry). AreSomeOf p.sent (sent_in p.number h)) known r.sent) returned in
    let parts : restored before ++ rest ≡ published_end = ap (λ (l : List Entry). l ++ rest) (sym began) ∙ take-append-drop (length before) published_end in
    let long : length published_end ≡ length before + length rest = sym (ap (λ (l : List Entry). length l) parts) ∙ length-append (restored before) rest ∙ ap (λ k. k + length rest) (length-map before (entry_of 0)) in
    let entries : entries_of_all 1 ps published_end ≤ length rest =
    omega (arith, ap (λ (l : List Entry). entries_of_all 1 ps l) (sym parts), nobodys 1 ps before rest (no_pass_is_0 n d.published ps returned), at_most_all (1 + length before) ps rest (once_at_most n d.published ps returned once)) in
    let sent : sent_by_all ps ≤ entries_of_all 1 ps published_end = sent_at_most published_end ps some in
    let whole : d.published_end ≡ length d.history = omega (arith, counted, long, entries, sent, length-take-le d.published_end d.history (omega (arith, s.order, s.within)), s.order, s.within) in
    let is : published_end ≡ history = take_whole d.history d.published_end whole ∙ sym same in
    let published : d.published ≡ ledger setup history = published_by setup d s of_setup ∙ ap (ledger setup) is in
    let all : AllByRecursion (λ p. p.sent ≡ sent_in p.number published_end) ps = all_sent published_end ps some (omega (arith, entries, counted, long, whole, ap (λ (l : List Entry). length l) (take_whole d.history d.published_end whole))) in
    let accepted : AreRecorded setup (events_of d.history) = subst (λ (x : Setup). AreRecorded x (events_of d.history)) of_setup s.accepted in
    record {
      accepted = subst (λ (h : List Entry). AreRecorded setup (events_of h)) (sym same) accepted;
      begins = (rest, parts ∙ is);
      all = ap (λ (h : List Entry). length h) same ∙ counted;
      each = subst (λ (h : List Entry). AllByRecursion (λ p. p.sent ≡ sent_in p.number h) ps) is all;
      knew = weaker_all (IsReturned n d.published) (λ p. IsPrefix p.known (ledger setup history)) ps (λ p r. subst (IsPrefix p.known) published r.knew) returned;
      feed_count =
          count ∙ ap (λ (k : Entries Entry). length (blog.feed k)) published ∙ ap (λ (l : List (List ℕ)). length l) (published_is setup history)
          ∙ length-map (feed setup (events_of history)) feed_bytes;
    }
