-- What a run of a delivery brings.
use Rattle.std.proofs.Common.{◌≡◌, ◌⊎◌, ℕ, suc, ◌+◌, ◌-◌, ◌<◌, ◌≤◌, List, [], ◌∷◌, ◌++◌, take, drop, Bool, true, false, refl, sym, ap, ◌∙◌, subst, inl, inr, arith}
use Rattle.std.specs.Prelude.{MatchBool}
use Rattle.std.proofs.lemmas.List.{drop-drop}
use Rattle.hx_soup.specs.Kinds.{sequenced_data, server_heartbeat, end_of_session}
use Rattle.hx_sessions.specs.declared.delivery.Turn.{Turn}
use Rattle.hx_sessions.specs.declared.delivery.Turn.TheVariants as turn
use Rattle.hx_sessions.specs.Deliveries.{Delivery, IsFrame, Goes}
use Rattle.hx_sessions.specs.Runs.{Asked, Runs, Brings, BringsAll}

-- ---- one turn

brings_reply : (a : Asked) (over after : Bool) (row : List ℕ) (rest : List (List ℕ)) (t : Turn) → over ≡ false → after ≡ false → IsFrame sequenced_data row t → Brings a over after (row ∷ rest) rest t
brings_reply a over after row rest (turn.Frame f) o e is = (o, inl (record { row = row; first = refl; bytes_are = is; goes_on = e }))
brings_reply a over after row rest turn.Idle o e is = absurd is
brings_reply a over after row rest turn.Over o e is = absurd is

brings_heartbeat : (a : Asked) (over after : Bool) (left : List (List ℕ)) (t : Turn) → over ≡ false → after ≡ false → IsFrame server_heartbeat [] t → Brings a over after left left t
brings_heartbeat a over after left (turn.Frame f) o e is = (o, inr (inl (record { same = refl; bytes_are = is; goes_on = e })))
brings_heartbeat a over after left turn.Idle o e is = absurd is
brings_heartbeat a over after left turn.Over o e is = absurd is

brings_end : (a : Asked) (over after : Bool) (left : List (List ℕ)) (t : Turn) → a.ended ≡ true → a.rows ≡ [] → over ≡ false → after ≡ true → IsFrame end_of_session [] t → Brings a over after left left t
brings_end a over after left (turn.Frame f) ended none o e is = (o, inr (inr (record { ended = ended; none_left = none; same = refl; bytes_are = is; is_over = e })))
brings_end a over after left turn.Idle ended none o e is = absurd is
brings_end a over after left turn.Over ended none o e is = absurd is

-- a turn that brings the first of its rows
record Moves (a : Asked) (old new : Delivery) (rows : List (List ℕ)) (t : Turn) : Type 0 where
  pub row : List ℕ
  pub others : List (List ℕ)
  pub rows_are : rows ≡ row ∷ others
  pub next : new.next ≡ old.next + 1
  pub brings : (rest : List (List ℕ)) → Brings a old.over new.over (row ∷ rest) rest t

-- a turn that brings none
record Waits (a : Asked) (old new : Delivery) (t : Turn) : Type 0 where
  pub next : new.next ≡ old.next
  pub brings : (left : List (List ℕ)) → Brings a old.over new.over left left t

waits_over : (a : Asked) (old new : Delivery) (t : Turn) → old.over ≡ true → (t ≡ turn.Over) × (new ≡ old) → Waits a old new t
waits_over a old new t o (is, same) = record {
  next = ap (λ (d : Delivery). d.next) same;
  brings = λ left. subst (Brings a old.over new.over left left) (sym is) (o, ap (λ (d : Delivery). d.over) same ∙ o, refl);
}

goes : (a : Asked) (old new : Delivery) (rows : List (List ℕ)) (ended : Bool) (now : ℕ) (t : Turn) → a.rows ≡ rows → a.ended ≡ ended → old.over ≡ false → Goes old new rows ended now t
    → Moves a old new rows t ⊎ Waits a old new t
goes a old new (row ∷ rows) ended now t r e o g = inl (record {
  row = row;
  others = rows;
  rows_are = refl;
  next = ap (λ (d : Delivery). d.next) g.is;
  brings = λ rest. brings_reply a old.over new.over row rest t o (ap (λ (d : Delivery). d.over) g.is) g.is_frame;
})
goes a old new [] true now t r e o g = inr (record {
  next = ap (λ (d : Delivery). d.next) g.is;
  brings = λ left. brings_end a old.over new.over left t e r o (ap (λ (d : Delivery). d.over) g.is) g.is_frame;
})
goes a old new [] false now t r e o g = inr (elim g [
  | inl h ↦ record {
    next = ap (λ (d : Delivery). d.next) h.is;
    brings = λ left. brings_heartbeat a old.over new.over left t o (ap (λ (d : Delivery). d.over) h.is) h.is_frame;
  }
  | inr n ↦ record {
    next = ap (λ (d : Delivery). d.next) n.is;
    brings = λ left. subst (Brings a old.over new.over left left) (sym n.is_idle) (o, ap (λ (d : Delivery). d.over) n.is ∙ o, refl);
  }
])

one_turn : (a : Asked) (old new : Delivery) (t : Turn) (over : Bool) → old.over ≡ over → MatchBool over ((t ≡ turn.Over) × (new ≡ old)) (Goes old new a.rows a.ended a.now t)
    → Moves a old new a.rows t ⊎ Waits a old new t
one_turn a old new t true o g = inr (waits_over a old new t o g)
one_turn a old new t false o g = goes a old new a.rows a.ended a.now t refl refl o g

-- ---- the replies of a run

-- the replies from number n on, up to number m
abbrev between_of : List (List ℕ) → ℕ → ℕ → List (List ℕ)
between_of replies n m = take (m - n) (drop (n - 1) replies)

none_between : (replies : List (List ℕ)) (n m : ℕ) → m ≡ n → between_of replies n m ≡ []
none_between replies n m e = let none : m - n ≡ 0 = omega arith in ap (λ (k : ℕ). take k (drop (n - 1) replies)) none

first_between : (replies rest : List (List ℕ)) (row : List ℕ) (n m : ℕ) → 0 < n → n + 1 ≤ m → drop (n - 1) replies ≡ row ∷ rest → between_of replies n m ≡ row ∷ between_of replies (n + 1) m
first_between replies rest row n m some room is =
    let count : m - n ≡ suc (m - (n + 1)) = omega arith in
    let shifted : (n + 1) - 1 ≡ (n - 1) + 1 = omega arith in
    let rest_after : drop ((n + 1) - 1) replies ≡ rest = ap (λ (k : ℕ). drop k replies) shifted ∙ sym (drop-drop 1 (n - 1) replies) ∙ ap (λ (xs : List (List ℕ)). drop 1 xs) is in
    ap (λ (k : ℕ). take k (drop (n - 1) replies)) count ∙ ap (take (suc (m - (n + 1)))) is ∙ ap (λ (xs : List (List ℕ)). row ∷ take (m - (n + 1)) xs) (sym rest_after)

run : (replies : List (List ℕ)) (old new : Delivery) (asked : List Asked) (turns : List Turn) → 0 < old.next → Runs replies old new asked turns
    → (old.next ≤ new.next) × BringsAll old.over (between_of replies old.next new.next) asked turns
run replies old new [] [] some same = let n : new.next ≡ old.next = ap (λ (d : Delivery). d.next) same in (omega (arith, n), none_between replies old.next new.next n)
run replies old new [] (t ∷ turns) some r = absurd r
run replies old new (a ∷ asked) [] some r = absurd r
run replies old new (a ∷ asked) (t ∷ turns) some (between, later, rows_are, gives, r) = elim (one_turn a old between t old.over refl gives) [
  | inl m ↦
      let h = run replies between new asked turns (omega (arith, m.next)) r in
      let first : drop (old.next - 1) replies ≡ m.row ∷ (m.others ++ later) = rows_are ∙ ap (λ (rows : List (List ℕ)). rows ++ later) m.rows_are in
      let room : old.next + 1 ≤ new.next = omega (arith, h.0, m.next) in
      let rest = between_of replies (old.next + 1) new.next in (
        omega (arith, room),
        (
          between.over,
          rest,
          subst (λ (left : List (List ℕ)). Brings a old.over between.over left rest t) (sym (first_between replies (m.others ++ later) m.row old.next new.next some room first)) (m.brings rest),
          subst (λ (n : ℕ). BringsAll between.over (between_of replies n new.next) asked turns) m.next h.1,
        ),
      )
  | inr w ↦
      let h = run replies between new asked turns (omega (arith, w.next, some)) r in
      let left = between_of replies old.next new.next in
      (omega (arith, h.0, w.next), (between.over, left, w.brings left, subst (λ (n : ℕ). BringsAll between.over (between_of replies n new.next) asked turns) w.next h.1))
]

pub brings_all : (replies : List (List ℕ)) (old new : Delivery) (asked : List Asked) (turns : List Turn) → 0 < old.next → old.over ≡ false → Runs replies old new asked turns
    → (old.next ≤ new.next) × BringsAll false (take (new.next - old.next) (drop (old.next - 1) replies)) asked turns
brings_all replies old new asked turns some live r =
    let h = run replies old new asked turns some r in
    (h.0, subst (λ (over : Bool). BringsAll over (between_of replies old.next new.next) asked turns) live h.1)
