-- What the next active writer reads is between what is durable and what was appended.
use Rattle.std.proofs.Common.{◌≡◌, ◌⊎◌, inl, inr, ⊎_elim, ℕ, zero, suc, ◌+◌, ◌≤◌, ◌<◌, ◌&&◌, ◌||◌, eqb, ltb, List, [], ◌∷◌, ◌++◌, length, take, get_or, Bool, true, false, cond, refl, sym, ap, ◌∙◌, subst, arith}
use Rattle.std.proofs.lemmas.Bool.{cases_eq}
use Rattle.std.proofs.lemmas.Bool.Decides.{nat_tests}
use Rattle.std.proofs.lemmas.List.{append-nil, take-append-le, get_or_append_left, get_or-append-add, get_or_past}
use Rattle.std.specs.List.{AllByRecursion}
use mathlib.Core.List.{IsPrefix}
use Rattle.hx_journal.specs.Crashes.{IsBetween, Leaves}
use Rattle.hx_fenced_log.specs.declared.terms.reading.Reading.{Reading}
use Rattle.hx_fenced_log.specs.Records.{Record}
use Rattle.hx_fenced_log.specs.Terms.{counts, is_later, is_by_who_stands, start, after, after_all, taking, passing, taken}
use Rattle.hx_fenced_log.specs.declared.log.writer.LogWriter.{LogWriter}
use Rattle.hx_fenced_log.proofs.Standing.{after_more}
use Rattle.hx_fenced_log.specs.JournalStates.{count_read, read_of, HasRead, taken_of}
use Rattle.hx_fenced_log.specs.Stops.{next_record, IsSentIfOwn, IsLeft, sent_then, IsLeftSince}
use Rattle.hx_fenced_log.proofs.Known.{many_read, still_read, same_read, same_taken}
use Rattle.hx_fenced_log.proofs.Taking.{after-counted, taken_append}
use Rattle.hx_units.proofs.Prefixes.{prefix_trans, prefix_length}

-- ---- why a record counts

-- its index is the next one
index_is : (p q : ℕ) (r : Bool) → (eqb p q && r) ≡ true → p ≡ q
index_is p q r e = grind (arith, nat_tests)

-- if no later term comes, it is by the writer of the term that stands
stands_is : (p : Bool) (t term w writer : ℕ) → (p && (ltb t term || (eqb term t && eqb w writer))) ≡ true → term ≤ t → (term ≡ t) × (w ≡ writer)
stands_is p t term w writer e le = (grind (arith, nat_tests), grind (arith, nat_tests))

no_earlier : (p w : Bool) (t term : ℕ) → (p && (ltb t term || (eqb term t && w))) ≡ true → t ≤ term
no_earlier p w t term e = grind (arith, nat_tests)

passed : (at : Reading) (r : Record) → counts at r.head ≡ false → after at r ≡ passing at
passed at r is = ap (λ (b : Bool). cond b (taking at r) (passing at)) is

-- ---- terms do not fall

rises : (at : Reading) (r : Record) → at.term ≤ (after at r).term
rises at r = by_test (counts at r.head) refl
  where
    by_test : (b : Bool) → counts at r.head ≡ b → at.term ≤ (after at r).term
    by_test true is = omega (arith, no_earlier (eqb r.head.index at.index) (eqb r.head.writer at.writer) at.term r.head.term is, ap (λ (a : Reading). a.term) (after-counted at r is))
    by_test false is = omega (arith, ap (λ (a : Reading). a.term) (passed at r is))

pub rise : (at : Reading) (rs : List Record) → at.term ≤ (after_all at rs).term
rise at [] = omega arith
rise at (r ∷ rs) = omega (arith, rises at r, rise (after at r) rs)

-- ---- what is taken of the records after it

empty : (l : List (List ℕ)) → length l ≡ 0 → l ≡ []
empty [] e = refl
empty (x ∷ l) e = absurd (omega (arith, e))

module _ (writer term : ℕ) (sent : Record) where
  -- a record that counts while the term stands is the one that was sent
  own_counts : (at : Reading) (r : Record) (rs : List Record) → at.term ≡ term → at.writer ≡ writer → (after_all (after at r) rs).term ≡ term → IsSentIfOwn writer term sent r → counts at r.head ≡ true
      → (r ≡ sent) × ((taking at r).term ≡ term) × ((taking at r).writer ≡ writer)
  own_counts at r rs is_term is_writer ends own it_does =
      let now : r.head.term ≡ (after at r).term = sym (ap (λ (a : Reading). a.term) (after-counted at r it_does)) in
      let le : r.head.term ≤ at.term = omega (arith, now, rise (after at r) rs, ends, is_term) in
      let s = stands_is (eqb r.head.index at.index) at.term r.head.term r.head.writer at.writer it_does le in
      (own (s.1 ∙ is_writer) (s.0 ∙ is_term), s.0 ∙ is_term, s.1 ∙ is_writer)

  -- after it nothing is taken
  nothing_more : (at : Reading) (rs : List Record) → at.term ≡ term → at.writer ≡ writer → at.index ≡ sent.head.index + length sent.lines → (after_all at rs).term ≡ term → AllByRecursion (IsSentIfOwn writer term sent) rs
      → taken at rs ≡ []
  nothing_more at [] is_term is_writer index ends own = refl
  nothing_more at (r ∷ rs) is_term is_writer index ends own = by_test (counts at r.head) refl (λ now now_term now_writer now_index now_ends. nothing_more now rs now_term now_writer now_index now_ends own.1)
    where
      by_test : (b : Bool) → counts at r.head ≡ b
          → ((now : Reading) → now.term ≡ term → now.writer ≡ writer → now.index ≡ sent.head.index + length sent.lines → (after_all now rs).term ≡ term → taken now rs ≡ [])
          → (cond b r.lines [] ++ taken (after at r) rs) ≡ []
      by_test true is more =
          let o = own_counts at r rs is_term is_writer ends own.0 is in
          let here : r.head.index ≡ at.index = index_is r.head.index at.index (is_later at r.head || is_by_who_stands at r.head) is in
          let there : r.head.index ≡ sent.head.index = ap (λ (x : Record). x.head.index) o.0 in
          let size : length r.lines ≡ length sent.lines = ap (λ (x : Record). length x.lines) o.0 in
          let none : length r.lines ≡ 0 = omega (arith, here, there, index, size) in
          let now = after-counted at r is in
          let rest = more (taking at r) o.1 o.2 (omega (arith, index, none)) (ap (λ (a : Reading). (after_all a rs).term) (sym now) ∙ ends) in
          ap (λ (a : Reading). r.lines ++ taken a rs) now ∙ ap (λ (l : List (List ℕ)). r.lines ++ l) rest ∙ append-nil r.lines ∙ empty r.lines none
      by_test false is more =
          let now = passed at r is in
          ap (λ (a : Reading). taken a rs) now ∙ more (passing at) is_term is_writer index (ap (λ (a : Reading). (after_all a rs).term) (sym now) ∙ ends)

  -- none of them, or its lines
  none_or_sent : (at : Reading) (rs : List Record) → at.term ≡ term → at.writer ≡ writer → (after_all at rs).term ≡ term → AllByRecursion (IsSentIfOwn writer term sent) rs → (taken at rs ≡ []) ⊎ (taken at rs ≡ sent.lines)
  none_or_sent at [] is_term is_writer ends own = inl refl
  none_or_sent at (r ∷ rs) is_term is_writer ends own = by_test (counts at r.head) refl (λ now now_term now_writer now_ends. none_or_sent now rs now_term now_writer now_ends own.1)
    where
      by_test : (b : Bool) → counts at r.head ≡ b
          → ((now : Reading) → now.term ≡ term → now.writer ≡ writer → (after_all now rs).term ≡ term → (taken now rs ≡ []) ⊎ (taken now rs ≡ sent.lines))
          → ((cond b r.lines [] ++ taken (after at r) rs) ≡ []) ⊎ ((cond b r.lines [] ++ taken (after at r) rs) ≡ sent.lines)
      by_test true is more =
          let o = own_counts at r rs is_term is_writer ends own.0 is in
          let here : r.head.index ≡ at.index = index_is r.head.index at.index (is_later at r.head || is_by_who_stands at r.head) is in
          let there : r.head.index ≡ sent.head.index = ap (λ (x : Record). x.head.index) o.0 in
          let size : length r.lines ≡ length sent.lines = ap (λ (x : Record). length x.lines) o.0 in
          let now = after-counted at r is in
          let rest = nothing_more (taking at r) rs o.1 o.2 (omega (arith, here, there, size)) (ap (λ (a : Reading). (after_all a rs).term) (sym now) ∙ ends) own.1 in
          inr (ap (λ (a : Reading). r.lines ++ taken a rs) now ∙ ap (λ (l : List (List ℕ)). r.lines ++ l) rest ∙ append-nil r.lines ∙ ap (λ (x : Record). x.lines) o.0)
      by_test false is more =
          let now = passed at r is in
          ⊎_elim
          (λ e. inl (ap (λ (a : Reading). taken a rs) now ∙ e))
          (λ e. inr (ap (λ (a : Reading). taken a rs) now ∙ e))
          (more (passing at) is_term is_writer (ap (λ (a : Reading). (after_all a rs).term) (sym now) ∙ ends))

-- ---- what is left

-- what is left begins with what was read, and has nothing but that and what was sent
pub left_between : (writer : ℕ) (read : List Record) (sent : Record) (lines : List (List ℕ)) → (after_all start read).writer ≡ writer → IsLeft writer read sent lines → IsBetween (taken start read) lines (taken start read ++ sent.lines)
left_between writer read sent lines active h =
    let at = after_all start read in
    let more = taken at h.others in
    let is : lines ≡ taken start read ++ more = h.is ∙ taken_append start read h.others in
    let ends : (after_all at h.others).term ≡ at.term = ap (λ (a : Reading). a.term) (sym (after_more start read h.others)) ∙ h.same_term in
    record {
      begins = (more, sym is);
      begun = ⊎_elim
          (λ none. (sent.lines, ap (λ (l : List (List ℕ)). l ++ sent.lines) (is ∙ ap (λ (l : List (List ℕ)). taken start read ++ l) none ∙ append-nil (taken start read))))
          (λ all. ([], append-nil lines ∙ is ∙ ap (λ (l : List (List ℕ)). taken start read ++ l) all))
          (none_or_sent writer at.term sent at h.others refl active ends h.own);
    }

-- a beginning of a beginning
take_front : {A : Type 0} (n : ℕ) (xs ys : List A) → IsPrefix xs ys → n ≤ length xs → take n ys ≡ take n xs
take_front n xs ys p le = ap (take n) (sym p.1) ∙ take-append-le n xs p.0 le

all_of : {A : Type 0} (n : ℕ) (xs ys : List A) → IsPrefix xs ys → n ≡ length xs → take n ys ≡ xs
all_of n xs ys p is = take_front n xs ys p (omega (arith, is)) ∙ ap (λ (k : ℕ). take k xs) is ∙ whole xs
  where
    whole : {A : Type 0} (xs : List A) → take (length xs) xs ≡ xs
    whole [] = refl
    whole (x ∷ xs) = ap (λ (l : List _). x ∷ l) (whole xs)

any_default : {A : Type 0} (xs : List A) (n : ℕ) (d e : A) → n < length xs → get_or xs n d ≡ get_or xs n e
any_default [] n d e lt = absurd (omega (arith, lt))
any_default (x ∷ xs) zero d e lt = refl
any_default (x ∷ xs) (suc n) d e lt = any_default xs n d e (omega (arith, lt))

same_left : (a b : ℕ) (read others : List Record) (sent other : Record) (lines : List (List ℕ)) → a ≡ b → read ≡ others → sent ≡ other → IsLeft a read sent lines → IsLeft b others other lines
same_left a b read others sent other lines who first next h =
    subst (λ (w : ℕ). IsLeft w others other lines) who
    (subst (λ (l : List Record). IsLeft a l other lines) first (subst (λ (r : Record). IsLeft a read r lines) next h))

-- ---- at moments

-- of a writer that stops now
now_between : (log : List Record) (w : LogWriter) (waits : List (List ℕ)) (n : ℕ) (lines : List (List ℕ)) → HasRead log w.reading → w.reading.writer ≡ w.writer → n ≡ count_read w.reading → IsLeft w.writer (take n log) (sent_then log w.reading waits n) lines
    → IsBetween (taken_of log w.reading) lines (taken_of log w.reading ++ waits)
now_between log w waits n lines h active now left =
    let read = read_of log w.reading in
    let size = many_read log read w.reading h in
    let stands : (after_all start read).writer ≡ w.writer = ap (λ (a : Reading). a.writer) (sym h.reading) ∙ active in
    left_between w.writer read (next_record w.reading waits) lines stands
    (same_left w.writer w.writer (take n log) read (sent_then log w.reading waits n) (next_record w.reading waits) lines refl
    (ap (λ (k : ℕ). take k log) now) (get_or_past read n (next_record w.reading waits) (omega (arith, now, size))) left)

-- what is left of a writer that stands
pub stands_between : (log : List Record) (w : LogWriter) (waits : List (List ℕ)) (lines : List (List ℕ)) → HasRead log w.reading → w.reading.writer ≡ w.writer → IsLeftSince log w waits (count_read w.reading) lines
    → IsBetween (taken_of log w.reading) lines (taken_of log w.reading ++ waits)
stands_between log w waits lines h active s = now_between log w waits s.count lines h active (omega (arith, s.since, s.until)) s.left

-- nothing more is read
pub unmoved_leaves : (old new : List Record) (w : LogWriter) (waits more most : List (List ℕ)) → HasRead old w.reading → IsPrefix old new → w.reading.writer ≡ w.writer → IsPrefix (taken_of old w.reading ++ more) most
    → Leaves (count_read w.reading) (count_read w.reading) (IsLeftSince old w waits) (IsLeftSince new w more) (taken_of old w.reading) most
unmoved_leaves old new w waits more most h grows active within = record { later = omega arith; each = each }
  where
    each : (t : ℕ) (lines : List (List ℕ)) → t ≤ count_read w.reading → IsLeftSince new w more t lines → IsLeftSince old w waits t lines ⊎ IsBetween (taken_of old w.reading) lines most
    each t lines le s = elim (cases_eq s.count (count_read w.reading)) [
      | inl now ↦
          let b = now_between new w more s.count lines (still_read old new w.reading grows h) active now s.left in
          let here = subst (λ (l : List (List ℕ)). IsBetween l lines (l ++ more)) (same_taken old new w.reading grows h) b in
          inr (record { begins = here.begins; begun = prefix_trans lines (taken_of old w.reading ++ more) most here.begun within })
      | inr other ↦
          let lt : s.count < count_read w.reading = omega (arith, s.until, other) in
          let size = many_read old (read_of old w.reading) w.reading h in
          let few = prefix_length (read_of old w.reading) old h.begins in
          let sent : sent_then new w.reading more s.count ≡ sent_then old w.reading waits s.count =
          ap (λ (l : List Record). get_or l s.count (next_record w.reading more)) (same_read old new w.reading grows h)
          ∙ any_default (read_of old w.reading) s.count (next_record w.reading more) (next_record w.reading waits) (omega (arith, lt, size)) in
          inl (record {
            count = s.count;
            since = s.since;
            until = s.until;
            left = same_left w.writer w.writer (take s.count new) (take s.count old) (sent_then new w.reading more s.count) (sent_then old w.reading waits s.count) lines refl
                (take_front s.count old new grows (omega (arith, lt, size, few))) sent s.left;
          })
    ]

-- one record more is read, which has the lines that waited
module _ (old new : List Record) (a b : LogWriter) (waits : List (List ℕ)) (k : Record) (h : HasRead old a.reading) (grows : IsPrefix old new) (active : a.reading.writer ≡ a.writer) (who : b.writer ≡ a.writer) (now : HasRead new b.reading) (stands : b.reading.writer ≡ b.writer)
    (reads : read_of new b.reading ≡ read_of old a.reading ++ k ∷ []) (counts_on : count_read b.reading ≡ count_read a.reading + 1) (waited : k.lines ≡ waits) (takes : taken_of new b.reading ≡ taken_of old a.reading ++ waits) where
  before : (t : ℕ) (lines : List (List ℕ)) → (s : IsLeftSince new b [] t lines) → s.count < count_read a.reading → IsLeftSince old a waits t lines
  before t lines s lt =
      let read = read_of old a.reading in
      let size = many_read old read a.reading h in
      let few = prefix_length read old h.begins in
      let sent : sent_then new b.reading [] s.count ≡ sent_then old a.reading waits s.count =
      ap (λ (l : List Record). get_or l s.count (next_record b.reading [])) reads
      ∙ get_or_append_left read (k ∷ []) (next_record b.reading []) s.count (omega (arith, lt, size))
      ∙ any_default read s.count (next_record b.reading []) (next_record a.reading waits) (omega (arith, lt, size)) in
      record {
        count = s.count;
        since = s.since;
        until = omega (arith, lt);
        left = same_left b.writer a.writer (take s.count new) (take s.count old) (sent_then new b.reading [] s.count) (sent_then old a.reading waits s.count) lines who
            (take_front s.count old new grows (omega (arith, lt, size, few))) sent s.left;
      }

  during : (t : ℕ) (lines : List (List ℕ)) → (s : IsLeftSince new b [] t lines) → s.count ≡ count_read a.reading → IsBetween (taken_of old a.reading) lines (taken_of old a.reading ++ waits)
  during t lines s is =
      let read = read_of old a.reading in
      let size = many_read old read a.reading h in
      let index : s.count ≡ length read + 0 = omega (arith, is, size) in
      let sent : sent_then new b.reading [] s.count ≡ k =
      ap (λ (l : List Record). get_or l s.count (next_record b.reading [])) reads
      ∙ ap (λ (n : ℕ). get_or (read ++ k ∷ []) n (next_record b.reading [])) index
      ∙ get_or-append-add read (k ∷ []) 0 (next_record b.reading []) in
      let is_active_now : (after_all start read).writer ≡ a.writer = ap (λ (r : Reading). r.writer) (sym h.reading) ∙ active in
      let left = same_left b.writer a.writer (take s.count new) read (sent_then new b.reading [] s.count) k lines who
      (all_of s.count read new (prefix_trans read old new h.begins grows) (omega (arith, is, size))) sent s.left in
      subst (λ (l : List (List ℕ)). IsBetween (taken_of old a.reading) lines (taken_of old a.reading ++ l)) waited (left_between a.writer read k lines is_active_now left)

  rest_after : (t : ℕ) (lines : List (List ℕ)) → (s : IsLeftSince new b [] t lines) → s.count ≡ count_read b.reading → IsBetween (taken_of old a.reading) lines (taken_of old a.reading ++ waits)
  rest_after t lines s is =
      let all = taken_of new b.reading in
      let here = now_between new b [] s.count lines now stands is s.left in
      record {
        begins = prefix_trans (taken_of old a.reading) all lines (waits, sym takes) here.begins;
        begun = subst (λ (l : List (List ℕ)). IsPrefix lines l) (append-nil all ∙ takes) here.begun;
      }

  pub durable_leaves : Leaves (count_read a.reading) (count_read b.reading) (IsLeftSince old a waits) (IsLeftSince new b []) (taken_of old a.reading) (taken_of old a.reading ++ waits)
  durable_leaves = record { later = omega (arith, counts_on); each = each }
    where
      each : (t : ℕ) (lines : List (List ℕ)) → t ≤ count_read a.reading → IsLeftSince new b [] t lines → IsLeftSince old a waits t lines ⊎ IsBetween (taken_of old a.reading) lines (taken_of old a.reading ++ waits)
      each t lines le s = elim (cases_eq s.count (count_read a.reading)) [
        | inl is ↦ inr (during t lines s is)
        | inr other ↦ elim (cases_eq s.count (count_read b.reading)) [
          | inl is ↦ inr (rest_after t lines s is)
          | inr neither ↦ inl (before t lines s (omega (arith, s.until, counts_on, other, neither)))
        ]
      ]
