-- Events one after another, up to the first that is refused.
use Rattle.std.proofs.Common.{◌≡◌, ℕ, zero, suc, ◌+◌, ◌<◌, ◌≤◌, Bool, true, false, List, [], ◌∷◌, ◌++◌, length, map, take, drop, set, get_or, refl, ap, sym, ◌∙◌, subst, arith, append_assoc, length-append}
use Rattle.std.specs.Prelude.{◌↔◌, Option, Some, None, Result, Ok, Err, slice_get}
use Rattle.std.specs.List.{AllByRecursion}
use Rattle.std.proofs.lemmas.List.{map-append, take_more}
use Rattle.hx_members.specs.Setups.{Setup}
use Rattle.hx_rules.specs.declared.event.Event.{Event}
use Rattle.hx_market.specs.Refusals.{is_from_stranger}
use Rattle.hx_desk.specs.declared.entry.Entry.{Entry}
use Rattle.hx_desk.specs.declared.entry.Done.{Done}
use Rattle.hx_desk.specs.declared.fault.DeskError.TheVariants as fault
use Rattle.hx_desk.specs.Entries.{entry_of}
use Rattle.hx_engine.specs.declared.answers.SubmitError.{SubmitError}
use Rattle.hx_engine.specs.declared.answers.SubmitError.TheVariants.{Refused, Stopped}
use Rattle.hx_engine.specs.Passes.{Sent, sent_by, placed}
use Rattle.hx_engine.specs.Exchanges.{DoneAt, LastDone, IsInOrder, IsRefusedOutright, AreAdmittedUpTo, is_bad_time}

snoc_same : {A : Type 0} (xs ys : List A) (x y : A) → xs ++ x ∷ [] ≡ ys ++ y ∷ [] → (xs ≡ ys) × (x ≡ y)
snoc_same [] [] x y p = (refl, ap (λ (l : List _). get_or l 0 x) p)
snoc_same [] (b ∷ ys) x y p = absurd (omega (arith, ap (λ (l : List _). length l) p, length-append ys (y ∷ [])))
snoc_same (a ∷ xs) [] x y p = absurd (omega (arith, ap (λ (l : List _). length l) p, length-append xs (x ∷ [])))
snoc_same (a ∷ xs) (b ∷ ys) x y p =
    let rest = snoc_same xs ys x y (ap (λ (l : List _). drop 1 l) p) in
    let first : a ≡ b = ap (λ (l : List _). get_or l 0 x) p in
    ((λ i. first i ∷ rest.0 i), rest.1)

pub one_last : (setup : Setup) (number : ℕ) (before now : List Entry) (events : List Event) (i : ℕ) (event : Event) (done : Done) → i < length events → event ≡ get_or events i event
    → now ≡ before ++ sent_by number (take i events) → DoneAt setup now event done → LastDone setup number before (take (i + 1) events) done
one_last setup number before now events i event done l is history at earlier other p =
    let q = snoc_same (take i events) earlier (get_or events i event) other (sym (take_more events i event l) ∙ p) in
    subst (λ (e : Event). DoneAt setup (before ++ sent_by number earlier) e done) (is ∙ q.1)
    (subst (λ (h : List Entry). DoneAt setup h event done) (history ∙ ap (λ (es : List Event). before ++ sent_by number es) q.0) at)

pub one_history : (number : ℕ) (before now new : List Entry) (events : List Event) (i : ℕ) (event : Event) → i < length events → event ≡ get_or events i event
    → now ≡ before ++ sent_by number (take i events) → new ≡ now ++ entry_of number event ∷ [] → new ≡ before ++ sent_by number (take (i + 1) events)
one_history number before now new events i event l is history more =
    more ∙ ap (λ (h : List Entry). h ++ entry_of number event ∷ []) history
    ∙ append_assoc before (sent_by number (take i events)) (entry_of number event ∷ [])
    ∙ ap (λ (h : List Entry). before ++ h)
    (ap (λ (e : Event). sent_by number (take i events) ++ entry_of number e ∷ []) is
    ∙ sym (map-append (entry_of number) (take i events) (get_or events i event ∷ []))
    ∙ ap (sent_by number) (sym (take_more events i event l)))

-- Which events are refused.

pub in_order : (setup : Setup) (event : Event) (done : Done) → IsRefusedOutright setup event (Ok done) → IsInOrder setup event
in_order setup event done r = (time, member (is_from_stranger setup event) refl)
  where
    here : (b : Bool) → is_bad_time event ≡ b → is_bad_time event ≡ false
    here true e = absurd (let z : ◌≡◌ {A = Result Done SubmitError} (Ok done) (Err (Refused fault.BadTime)) = r.bad_time.1 e in cc)
    here false e = e

    time : is_bad_time event ≡ false
    time = here (is_bad_time event) refl

    member : (b : Bool) → is_from_stranger setup event ≡ b → is_from_stranger setup event ≡ false
    member true e = absurd (let z : ◌≡◌ {A = Result Done SubmitError} (Ok done) (Err (Refused fault.NoMember)) = r.no_member.1 (time, e) in cc)
    member false e = e

no_true : (b : Bool) → b ≡ false → b ≡ true → ⊥
no_true b f t = let z : true ≡ false = sym t ∙ f in absurd (let y : true ≡ false = z in cc)

stopped : (setup : Setup) (event : Event) → IsInOrder setup event → IsRefusedOutright setup event (Err Stopped)
stopped setup event r = record {
  bad_time = ((λ e. absurd (let z : ◌≡◌ {A = Result Done SubmitError} (Err Stopped) (Err (Refused fault.BadTime)) = e in cc)), (λ b. absurd (no_true (is_bad_time event) r.0 b)));
  no_member = ((λ e. absurd (let z : ◌≡◌ {A = Result Done SubmitError} (Err Stopped) (Err (Refused fault.NoMember)) = e in cc)), (λ b. absurd (no_true (is_from_stranger setup event) r.1 b.1)));
}

next_in_order : (setup : Setup) (events : List Event) (i : ℕ) (event : Event) → i < length events → event ≡ get_or events i event → AllByRecursion (IsInOrder setup) (take i events) → IsInOrder setup event
    → AllByRecursion (IsInOrder setup) (take (suc i) events)
next_in_order setup [] i event l is all one = absurd (omega arith)
next_in_order setup (e ∷ events) zero event l is all one = (subst (IsInOrder setup) is one, tt)
next_in_order setup (e ∷ events) (suc i) event l is all one = (all.0, next_in_order setup events i event (omega arith) is all.1 one)

pub all_one_more : (setup : Setup) (events : List Event) (i : ℕ) (event : Event) → i < length events → event ≡ get_or events i event → AllByRecursion (IsInOrder setup) (take i events) → IsInOrder setup event
    → AllByRecursion (IsInOrder setup) (take (i + 1) events)
all_one_more setup events i event l is all one =
    subst (λ n. AllByRecursion (IsInOrder setup) (take n events)) (let e : suc i ≡ i + 1 = omega arith in e) (next_in_order setup events i event l is all one)

-- the record of an event among those of all

pub text_at : (line : Event → List ℕ) (events : List Event) (i : ℕ) (event : Event) → i < length events → event ≡ get_or events i event → get_or (map line events) i [] ≡ line event
text_at line [] i event in' is = absurd (omega arith)
text_at line (e ∷ events) zero event in' is = ap line (sym is)
text_at line (e ∷ events) (suc i) event in' is = text_at line events i event (omega arith) is

-- one more event, at its index
pub one_placed : (later : ℕ) (events : List Event) (i : ℕ) (event : Event) → i < length events → event ≡ get_or events i event → placed later (take (i + 1) events) ≡ placed later (take i events) ++ (later + i + 1, event) ∷ []
one_placed later events i event l is = ap (λ n. placed later (take n events)) (let e : i + 1 ≡ suc i = omega arith in e) ∙ next later events i l is
  where
    next : (later : ℕ) (events : List Event) (i : ℕ) → i < length events → event ≡ get_or events i event → placed later (take (suc i) events) ≡ placed later (take i events) ++ (later + i + 1, event) ∷ []
    next later [] i l is = absurd (omega arith)
    next later (e ∷ events) zero l is = (λ k. (same k, sym is k) ∷ [])
      where
        same : later + 1 ≡ later + 0 + 1
        same = omega arith
    next later (e ∷ events) (suc i) l is =
        ap (λ (l : List Sent). (later + 1, e) ∷ l)
        (next (later + 1) events i (omega arith) is ∙ ap (λ k. placed (later + 1) (take i events) ++ (k, event) ∷ []) (let z : later + 1 + i + 1 ≡ later + suc i + 1 = omega arith in z))

pub event_at : (now was : List Event) (i : ℕ) (event : Event) → i < length now → i < length was → event ≡ get_or now i event → drop i now ≡ drop i was → event ≡ get_or was i event
event_at [] was i event l m is rest = absurd (omega arith)
event_at (x ∷ now) [] i event l m is rest = absurd (omega arith)
event_at (x ∷ now) (y ∷ was) zero event l m is rest = is ∙ ap (λ (l : List Event). get_or l 0 event) rest
event_at (x ∷ now) (y ∷ was) (suc i) event l m is rest = event_at now was i event (omega arith) (omega arith) is rest

pub events_after : (now was : List Event) (i : ℕ) (event : Event) → drop i now ≡ drop i was → drop (i + 1) (set now i event) ≡ drop (i + 1) was
events_after now was i event rest = let e : suc i ≡ i + 1 = omega arith in subst (λ n. drop n (set now i event) ≡ drop n was) e (past now i ∙ sym (later i now) ∙ ap (λ (l : List Event). drop 1 l) rest ∙ later i was)
  where
    later : (i : ℕ) (xs : List Event) → drop 1 (drop i xs) ≡ drop (suc i) xs
    later zero xs = refl
    later (suc i) [] = refl
    later (suc i) (x ∷ xs) = later i xs

    past : (xs : List Event) (i : ℕ) → drop (suc i) (set xs i event) ≡ drop (suc i) xs
    past [] i = refl
    past (x ∷ xs) zero = refl
    past (x ∷ xs) (suc i) = past xs i

got : (events : List Event) (i : ℕ) (event other : Event) → slice_get events i ≡ Some other → event ≡ get_or events i event → event ≡ other
got [] i event other g is = absurd (let z : ◌≡◌ {A = Option Event} None (Some other) = g in cc)
got (e ∷ events) zero event other g is = is ∙ (let z : Some e ≡ Some other = g in cc)
got (e ∷ events) (suc i) event other g is = got events i event other g is

-- the event after the first `i` is refused
pub refused_at : (setup : Setup) (events : List Event) (i : ℕ) (event : Event) (error : SubmitError) → i < length events → event ≡ get_or events i event → AllByRecursion (IsInOrder setup) (take i events)
    → IsRefusedOutright setup event (Err error) → AreAdmittedUpTo setup events i (Some error)
refused_at setup events i event error l is all r = (l, all, λ other g. subst (λ (e : Event). IsRefusedOutright setup e (Err error)) (got events i event other g is) r)

-- none is published
pub none_published : (setup : Setup) (events : List Event) (count : ℕ) (refused : Option SubmitError) → 0 < count → AreAdmittedUpTo setup events count refused → AreAdmittedUpTo setup events 0 (Some Stopped)
none_published setup [] count None l h = absurd (omega (arith, h.1))
none_published setup [] count (Some e) l h = absurd (omega (arith, h.0))
none_published setup (x ∷ events) zero None l h = absurd (omega arith)
none_published setup (x ∷ events) zero (Some e) l h = absurd (omega arith)
none_published setup (x ∷ events) (suc n) None l h = (omega arith, tt, λ other g. subst (λ (y : Event). IsRefusedOutright setup y (Err Stopped)) (let z : Some x ≡ Some other = g in cc) (stopped setup x h.2.0))
none_published setup (x ∷ events) (suc n) (Some e) l h = (omega arith, tt, λ other g. subst (λ (y : Event). IsRefusedOutright setup y (Err Stopped)) (let z : Some x ≡ Some other = g in cc) (stopped setup x h.1.0))

-- An answer that is the same for a bad time and for a stranger.

pub still_outright : (setup : Setup) (event : Event) (error answer : SubmitError) → ((answer ≡ Refused fault.BadTime) ↔ (error ≡ Refused fault.BadTime)) → ((answer ≡ Refused fault.NoMember) ↔ (error ≡ Refused fault.NoMember))
    → IsRefusedOutright setup event (Err error) → IsRefusedOutright setup event (Err answer)
still_outright setup event error answer bad none r = record {
  bad_time = (
    (λ e. r.bad_time.0 (err error (Refused fault.BadTime) (bad.0 (out answer (Refused fault.BadTime) e)))),
    (λ b. err answer (Refused fault.BadTime) (bad.1 (out error (Refused fault.BadTime) (r.bad_time.1 b)))),
  );
  no_member = (
    (λ e. r.no_member.0 (err error (Refused fault.NoMember) (none.0 (out answer (Refused fault.NoMember) e)))),
    (λ b. err answer (Refused fault.NoMember) (none.1 (out error (Refused fault.NoMember) (r.no_member.1 b)))),
  );
}
  where
    err : (a b : SubmitError) → a ≡ b → ◌≡◌ {A = Result Done SubmitError} (Err a) (Err b)
    err a b e = cc

    out : (a b : SubmitError) → ◌≡◌ {A = Result Done SubmitError} (Err a) (Err b) → a ≡ b
    out a b e = cc

pub at_most : (setup : Setup) (events : List Event) (count : ℕ) (refused : Option SubmitError) → AreAdmittedUpTo setup events count refused → count ≤ length events
at_most setup events count None h = h.1
at_most setup events count (Some e) h = omega (arith, h.0)
