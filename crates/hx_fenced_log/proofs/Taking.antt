-- What is taken of a longer log, and which term stands after a record that counts.
use Rattle.std.proofs.Common.{◌≡◌, ◌⊎◌, inl, inr, ℕ, ◌+◌, ◌≤◌, List, [], ◌∷◌, ◌++◌, Bool, true, false, cond, refl, sym, ap, ◌∙◌, arith, append_assoc, ◌&&◌, ◌||◌, eqb, eqb-true, eq-eqb, ltb, ltb-true}
use mathlib.Core.List.{IsPrefix}
use Rattle.hx_fenced_log.specs.declared.terms.head.Head.{Head}
use Rattle.hx_fenced_log.specs.declared.terms.reading.Reading.{Reading}
use Rattle.hx_fenced_log.specs.Records.{Record}
use Rattle.hx_fenced_log.specs.Terms.{counts, is_later, is_by_who_stands, after, after_all, taking, passing, taken, takeover_of}
use Rattle.hx_fenced_log.specs.TermLaws.{OneBeginsOther, TakenGrows, DeposedDoNotCount, OneIsAhead, OneWriterATerm, NextCounts, TakeoverCounts, TakeoverAddsNothing}

pub taken_append : (at : Reading) (xs ys : List Record) → taken at (xs ++ ys) ≡ taken at xs ++ taken (after_all at xs) ys
taken_append at [] ys = refl
taken_append at (x ∷ xs) ys =
    ap (λ (l : List (List ℕ)). cond (counts at x.head) x.lines [] ++ l) (taken_append (after at x) xs ys)
    ∙ sym (append_assoc (cond (counts at x.head) x.lines []) (taken (after at x) xs) (taken (after_all (after at x) xs) ys))

pub taken_grows : TakenGrows
taken_grows at shorter longer begins = (
  taken (after_all at shorter) begins.0,
  sym (taken_append at shorter begins.0) ∙ ap (taken at) begins.1,
)

-- of two beginnings of a list one begins the other
pub two_beginnings : {A : Type 0} (one other all : List A) → IsPrefix one all → IsPrefix other all → OneBeginsOther one other
two_beginnings [] other all p q = inl (other, refl)
two_beginnings (x ∷ one) [] all p q = inr (x ∷ one, refl)
two_beginnings (x ∷ one) (y ∷ other) [] p q = absurd (cc (p.1))
two_beginnings (x ∷ one) (y ∷ other) (z ∷ all) p q =
    let head : x ≡ y = cc (p.1, q.1) in
    let first : IsPrefix one all = (p.0, cc (p.1)) in
    let second : IsPrefix other all = (q.0, cc (q.1)) in
    elim (two_beginnings one other all first second) [
      | inl before ↦ inl (before.0, (λ i. head i ∷ before.1 i))
      | inr before ↦ inr (before.0, (λ i. sym head i ∷ before.1 i))
    ]

pub one_is_ahead : OneIsAhead
one_is_ahead at one other log p q = elim (two_beginnings one other log p q) [
  | inl before ↦ inl (taken_grows at one other before)
  | inr before ↦ inr (taken_grows at other one before)
]

-- ---- tests

right : (a b : Bool) → (a && b) ≡ true → b ≡ true
right true b e = e
right false true e = refl
right false false e = e

left : (a b : Bool) → (a && b) ≡ true → a ≡ true
left true b e = refl
left false b e = e

either : (a b : Bool) → (a || b) ≡ true → (a ≡ true) ⊎ (b ≡ true)
either true b e = inl refl
either false b e = inr e

-- ---- terms

-- a later term stands, or the same and its writer
pub record IsNoEarlier (at later : Reading) : Type 0 where
  pub term : at.term ≤ later.term
  pub writer : later.term ≡ at.term → later.writer ≡ at.writer

is_active_now : (at : Reading) (head : Head) → counts at head ≡ true → (at.term ≤ head.term) × (head.term ≡ at.term → head.writer ≡ at.writer)
is_active_now at head e =
    elim (either (is_later at head) (is_by_who_stands at head) (right (eqb head.index at.index) (is_later at head || is_by_who_stands at head) e)) [
      | inl later ↦ let lt = ltb-true at.term head.term later in (omega (arith, lt), λ same. absurd (omega (arith, lt, same)))
      | inr stands ↦
          let same = eqb-true head.term at.term (left (eqb head.term at.term) (eqb head.writer at.writer) stands) in
          let by = eqb-true head.writer at.writer (right (eqb head.term at.term) (eqb head.writer at.writer) stands) in
          (omega (arith, same), λ _. by)
    ]

rises : (at : Reading) (r : Record) → IsNoEarlier at (after at r)
rises at r = by_test (counts at r.head) refl
  where
    by_test : (b : Bool) → counts at r.head ≡ b → IsNoEarlier at (cond b (taking at r) (passing at))
    by_test true is = let h = is_active_now at r.head is in record { term = h.0; writer = h.1 }
    by_test false is = record { term = omega arith; writer = λ _. refl }

joined : (a b c : Reading) → IsNoEarlier a b → IsNoEarlier b c → IsNoEarlier a c
joined a b c p q = record {
  term = omega (arith, p.term, q.term);
  writer = λ same.
      let second : c.term ≡ b.term = omega (arith, p.term, q.term, same) in
      let first : b.term ≡ a.term = omega (arith, p.term, q.term, same) in
      q.writer second ∙ p.writer first;
}

rise : (at : Reading) (rs : List Record) → IsNoEarlier at (after_all at rs)
rise at [] = record { term = omega arith; writer = λ _. refl }
rise at (r ∷ rs) = joined at (after at r) (after_all (after at r) rs) (rises at r) (rise (after at r) rs)

-- after a record that counts, its term stands
pub after-counted : (at : Reading) (r : Record) → counts at r.head ≡ true → after at r ≡ taking at r
after-counted at r is = ap (λ (b : Bool). cond b (taking at r) (passing at)) is

pub deposed : DeposedDoNotCount
deposed at one late between is below = by_test (counts (after_all (after at one) between) late.head) refl
  where
    here : (after at one).term ≡ one.head.term
    here = ap (λ (a : Reading). a.term) (after-counted at one is)

    by_test : (b : Bool) → counts (after_all (after at one) between) late.head ≡ b → b ≡ false
    by_test true it_does = absurd (omega (arith, below, here, (rise (after at one) between).term, (is_active_now (after_all (after at one) between) late.head it_does).0))
    by_test false it_does = refl

pub one_writer : OneWriterATerm
one_writer at first second between is too same =
    let rest_after = after_all (after at first) between in
    let here : (after at first).term ≡ first.head.term = ap (λ (a : Reading). a.term) (after-counted at first is) in
    let by : (after at first).writer ≡ first.head.writer = ap (λ (a : Reading). a.writer) (after-counted at first is) in
    let up = rise (after at first) between in
    let active = is_active_now rest_after second.head too in
    let level : second.head.term ≡ rest_after.term = omega (arith, same, here, up.term, active.0) in
    let back : rest_after.term ≡ (after at first).term = omega (arith, same, here, up.term, active.0) in
    active.1 level ∙ up.writer back ∙ by

-- ---- writing

pub next_counts : NextCounts
next_counts at = grind (arith, eq-eqb at.index at.index refl, eq-eqb at.term at.term refl, eq-eqb at.writer at.writer refl)

later : (n : ℕ) → ltb n (n + 1) ≡ true
later n = grind (arith, ltb-true)

takes_over : (at : Reading) (writer : ℕ) → counts at (takeover_of writer at) ≡ true
takes_over at writer = grind (arith, eq-eqb at.index at.index refl, later at.term)

pub takeover_counts : TakeoverCounts
takeover_counts at writer = (
  takes_over at writer,
  ap (λ (a : Reading). a.writer) (after-counted at (record { head = takeover_of writer at; lines = [] }) (takes_over at writer)),
)

pub takeover_adds_nothing : TakeoverAddsNothing
takeover_adds_nothing at writer rest =
    let r : Record = record { head = takeover_of writer at; lines = [] } in
    none (counts at r.head) (taken (after at r) rest)
  where
    none : (b : Bool) (l : List (List ℕ)) → cond b [] [] ++ l ≡ l
    none true l = refl
    none false l = refl
