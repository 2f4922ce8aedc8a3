-- The state under the lock, and the batch on its way to the journal.
use Rattle.std.proofs.Common.{◌≡◌, inl, inr, ℕ, zero, suc, ◌+◌, ◌<◌, ◌≤◌, List, [], ◌∷◌, ◌++◌, length, take, drop, get_or, refl, ap, sym, ◌∙◌, subst, arith, append_assoc}
use Rattle.std.proofs.lemmas.List.{map-append, length-map, length-take, length-take-le, take-append-le, drop-append-le, take-append-drop}
use Rattle.std.proofs.Math.Seq.{take-append_seam}
use Rattle.std.specs.List.{AllByRecursion}
use mathlib.Core.List.{IsPrefix}
use Rattle.std.specs.Prelude.{Option, Some, IfSome}
use Rattle.hx_blog.specs.Feed.{Entries, feed}
use Rattle.hx_rules.specs.declared.event.Event.{Event}
use Rattle.hx_desk.specs.declared.entry.Entry.{Entry}
use Rattle.hx_desk.specs.declared.entry.Done.{Done}
use Rattle.hx_desk.specs.Entries.{restored, entry_of}
use Rattle.hx_desk.specs.Known.{history_of}
use Rattle.hx_desk.specs.Desks.{DeskState, Grows, published_of}
use Rattle.hx_journal.specs.Crashes.{Leaves}
use Rattle.hx_journal.specs.Records.{IsRecord}
use Rattle.hx_engine.specs.Journals.{unspoken, lines}

pub feed_unspoken : (h : List Entry) → feed (unspoken h) ≡ []
feed_unspoken [] = refl
feed_unspoken (e ∷ h) = feed_unspoken h

pub published_of_unspoken : (h : List Entry) → history_of (unspoken h) ≡ h
published_of_unspoken [] = refl
published_of_unspoken (e ∷ h) = ap (λ (l : List Entry). e ∷ l) (published_of_unspoken h)

pub length_unspoken : (h : List Entry) → length (unspoken h) ≡ length h
length_unspoken [] = refl
length_unspoken (e ∷ h) = ap suc (length_unspoken h)

pub take_unspoken : (n : ℕ) (h : List Entry) → take n (unspoken h) ≡ unspoken (take n h)
take_unspoken zero h = refl
take_unspoken (suc n) [] = refl
take_unspoken (suc n) (e ∷ h) = ap (λ (l : Entries Entry). (e, []) ∷ l) (take_unspoken n h)

drop_unspoken : (n : ℕ) (h : List Entry) → drop n (unspoken h) ≡ unspoken (drop n h)
drop_unspoken zero h = refl
drop_unspoken (suc n) [] = refl
drop_unspoken (suc n) (e ∷ h) = drop_unspoken n h

front : {A : Type 0} (xs ys : List A) → IsPrefix xs ys → xs ≡ take (length xs) ys
front xs ys p = sym (take-append_seam xs p.0) ∙ ap (take (length xs)) p.1

-- entries without messages, from an index on
pub silent_rest : (n : ℕ) (known entries : Entries Entry) → known ≡ unspoken (history_of known) → entries ≡ drop n known → entries ≡ unspoken (history_of entries)
silent_rest n known entries is e =
    let p : entries ≡ unspoken (drop n (history_of known)) = e ∙ ap (drop n) is ∙ drop_unspoken n (history_of known) in
    p ∙ ap unspoken (sym (published_of_unspoken (drop n (history_of known)))) ∙ ap (λ (k : Entries Entry). unspoken (history_of k)) (sym p)

-- what holds of the value that is there
pub some_at : {T : Type 0} (P : T → Type 0) (o : Option T) (t : T) → Some t ≡ o → IfSome o P → P t
some_at P o t e h = subst (λ (x : Option _). IfSome x P) (sym e) h

-- One more entry.

pub published_stays : (d e : DeskState) (entry : Entry) (done : Done) → Grows d e entry done → d.published_end ≤ length d.history → published_of e ≡ published_of d
published_stays d e entry done grows within = (λ i. take (grows.published_end i) (grows.history i)) ∙ take-append-le d.published_end d.history (entry ∷ []) within

pub one_line : (line : Event → List ℕ) (records : List (List ℕ)) (written : List ℕ) (d e : DeskState) (entry : Entry) (done : Done) → Grows d e entry done → d.sealed ≤ length d.history
    → records ≡ lines line (drop d.sealed d.history) → written ≡ line entry.event → records ++ written ∷ [] ≡ lines line (drop e.sealed e.history)
one_line line records written d e entry done grows within are is =
    (λ i. are i ++ is i ∷ [])
    ∙ sym (map-append (λ (x : Entry). line x.event) (drop d.sealed d.history) (entry ∷ []))
    ∙ ap (lines line) (sym (drop-append-le d.sealed d.history (entry ∷ []) within))
    ∙ (λ i. lines line (drop (sym grows.sealed i) (sym grows.history i)))

pub more_unspoken : (h : List Entry) (e : Entry) → unspoken h ++ unspoken (e ∷ []) ≡ unspoken (h ++ e ∷ [])
more_unspoken h e = sym (map-append (λ (x : Entry). (x, [])) h (e ∷ []))

-- More is published.

take_shorter : {A : Type 0} (n m : ℕ) (xs : List A) → n ≤ m → take n (take m xs) ≡ take n xs
take_shorter zero m xs l = refl
take_shorter (suc n) zero xs l = absurd (omega arith)
take_shorter (suc n) (suc m) [] l = refl
take_shorter (suc n) (suc m) (x ∷ xs) l = ap (λ (v : List _). x ∷ v) (take_shorter n m xs (omega arith))

pub still_begins : (before : List Event) (h : List Entry) (published_end more : ℕ) → published_end ≤ more → take (length before) (take published_end h) ≡ restored before → take (length before) (take more h) ≡ restored before
still_begins before h published_end more l began =
    let n : length (take (length before) (take published_end h)) ≡ length before = ap (λ (k : List Entry). length k) began ∙ length-map before (entry_of 0) in
    let short : length before ≤ published_end = omega (arith, n, length-take (length before) (take published_end h), length-take published_end h) in
    take_shorter (length before) more h (omega (arith, short)) ∙ sym (take_shorter (length before) published_end h short) ∙ began

-- A batch.

pub begun_at : (h : List Entry) (published_end : ℕ) (published known : Entries Entry) → published_end ≤ length h → known ≡ unspoken h → published ≡ unspoken (take published_end h) → take (length published) known ≡ published
begun_at h published_end published known l is p =
    let n : length published ≡ published_end = ap (λ (k : Entries Entry). length k) p ∙ length_unspoken (take published_end h) ∙ length-take-le published_end h l in
    (λ i. take (n i) (is i)) ∙ take_unspoken published_end h ∙ sym p

pub spelled_from : (line : Event → List ℕ) (h : List Entry) (published_end sealed : ℕ) (published known : Entries Entry) (texts : List (List ℕ)) → published_end ≤ length h → known ≡ unspoken h → published ≡ unspoken (take published_end h) → sealed ≡ published_end
    → texts ≡ lines line (drop sealed h) → texts ≡ lines line (history_of (drop (length published) known))
spelled_from line h published_end sealed published known texts l is p same are =
    let n : length published ≡ published_end = ap (λ (k : Entries Entry). length k) p ∙ length_unspoken (take published_end h) ∙ length-take-le published_end h l in
    are ∙ ap (λ k. lines line (drop k h)) same
    ∙ ap (lines line) (sym (published_of_unspoken (drop published_end h)) ∙ ap history_of (sym (drop_unspoken published_end h)) ∙ (λ i. history_of (drop (sym n i) (sym is i))))

pub published_at : (h : List Entry) (sealed end : ℕ) (published known register : Entries Entry) → published ≡ known → end ≡ length known → sealed ≡ end → IsPrefix known register → register ≡ unspoken h → published ≡ unspoken (take sealed h)
published_at h sealed end published known register all ends same p is =
    all ∙ front known register p ∙ (λ i. take (sym (same ∙ ends) i) (is i)) ∙ take_unspoken sealed h

-- Records.

pub all_records : (line : Event → List ℕ) → ((e : Event) → IsRecord (line e)) → (h : List Entry) → AllByRecursion IsRecord (lines line h)
all_records line are [] = tt
all_records line are (e ∷ h) = (are e.event, all_records line are h)

pub record_at : (records : List (List ℕ)) (i : ℕ) → i < length records → AllByRecursion IsRecord records → IsRecord (get_or records i [])
record_at [] i in' all = absurd (omega arith)
record_at (x ∷ records) zero in' all = all.0
record_at (x ∷ records) (suc i) in' all = record_at records i (omega arith) all.1

-- What the journal leaves.

pub longer : (xs ys zs : List (List ℕ)) → IsPrefix xs ys → IsPrefix ys zs → IsPrefix xs zs
longer xs ys zs p q = (p.0 ++ q.0, sym (append_assoc xs p.0 q.0) ∙ (ap (λ w. w ++ q.0) p.1 ∙ q.1))

pub leaves_then : (a b c : ℕ) (past mid since : ℕ → List (List ℕ) → Type 0) (least least' most most' all : List (List ℕ)) → Leaves a b past mid least most → Leaves b c mid since least' most'
    → least' ≡ least → IsPrefix most all → IsPrefix most' all → Leaves a c past since least all
leaves_then a b c past mid since least least' most most' all f s same p q = record {
  later = omega (arith, f.later, s.later);
  each = λ t w l h.
      elim (s.each t w (omega (arith, f.later)) h) [
        | inl m ↦ elim (f.each t w l m) [ inl x ↦ inl x | inr x ↦ inr (record { begins = x.begins; begun = longer w most all x.begun p }) ]
        | inr x ↦ inr (record { begins = subst (λ k. IsPrefix k w) same x.begins; begun = longer w most' all x.begun q })
      ];
}

-- one record more
pub one_record : (start records : List (List ℕ)) (i : ℕ) → i < length records → (start ++ take i records) ++ get_or records i [] ∷ [] ≡ start ++ take (i + 1) records
one_record start records i in' = append_assoc start (take i records) (get_or records i [] ∷ []) ∙ ap (λ (l : List (List ℕ)). start ++ l) (next records i in' ∙ ap (λ k. take k records) (let e : suc i ≡ i + 1 = omega arith in e))
  where
    next : (records : List (List ℕ)) (i : ℕ) → i < length records → take i records ++ get_or records i [] ∷ [] ≡ take (suc i) records
    next [] i in' = absurd (omega arith)
    next (x ∷ records) zero in' = refl
    next (x ∷ records) (suc i) in' = ap (λ (l : List (List ℕ)). x ∷ l) (next records i (omega arith))

pub some_records : (start records : List (List ℕ)) (i : ℕ) → IsPrefix (start ++ take i records) (start ++ records)
some_records start records i = (drop i records, append_assoc start (take i records) (drop i records) ∙ ap (λ (l : List (List ℕ)). start ++ l) (take-append-drop i records))

-- the records of what is known begin those of what is published
pub known_lines : (line : Event → List ℕ) (known published : Entries Entry) (h : List Entry) → IsPrefix known published → history_of published ≡ h → IsPrefix (lines line (history_of known)) (lines line h)
known_lines line known published h p is = (
  lines line (history_of p.0),
  sym (map-append (λ (x : Entry). line x.event) (history_of known) (history_of p.0))
      ∙ ap (lines line) (sym (map-append (λ (x : Entry × List (List ℕ)). x.0) known p.0) ∙ ap history_of p.1 ∙ is),
)

-- What a crash leaves.

-- a history begins with the events that were durable before
pub begins_before : (before : List Event) (h : List Entry) → take (length before) h ≡ restored before → IsPrefix (restored before) h
begins_before before h is = subst (λ (l : List Entry). IsPrefix l h) is (drop (length before) h, take-append-drop (length before) h)
