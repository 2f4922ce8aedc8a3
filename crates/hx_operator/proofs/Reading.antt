-- A schedule is read line by line.
use Rattle.std.proofs.Common.{◌≡◌, ◌+◌, ◌-◌, ◌≤◌, ℕ, suc, List, [], ◌∷◌, ◌++◌, length, Bool, true, Option, Some, None, Result, Ok, Err, refl, sym, ap, ◌∙◌, append_assoc, append-nil, arith}
use Rattle.std.specs.Prelude.{is_none, is_ok, slice_get, IfNone}
use Rattle.std.specs.List.{flat_map, list_all}
use Rattle.std.proofs.lemmas.Bool.{and_parts}
use Rattle.std.proofs.lemmas.List.Splits.{slice_split_none, slice_split_at}
use Rattle.hx_units.specs.Cuts.{Lacks}
use Rattle.hx_operator.specs.declared.entry.Entry.{Entry}
use Rattle.hx_operator.specs.declared.entry.Wrong.{Wrong}
use Rattle.hx_operator.specs.Marks.{is_line_feed, lines_of}
use Rattle.hx_operator.specs.Schedules.{entry_of, fault_later, fault_after, fault_of, are_in_order, said, entries_of, AreOfSchedule, IsFirstFault}
use Rattle.hx_operator.proofs.Cuts.{none_passes}

-- ---- lists that grow at their end

all_snoc : {A : Type 0} (p : A → Bool) (xs : List A) (x : A) → list_all p xs ≡ true → p x ≡ true → list_all p (xs ++ x ∷ []) ≡ true
all_snoc p [] x all e = rw e refl
all_snoc p (y ∷ ys) x all e =
    let t = and_parts (p y) (list_all p ys) all in
    rw (t.0, all_snoc p ys x t.1 e) refl

flat_snoc : {A B : Type 0} (f : A → List B) (xs : List A) (x : A) → flat_map f (xs ++ x ∷ []) ≡ flat_map f xs ++ f x
flat_snoc f [] x = append-nil (f x)
flat_snoc f (y ∷ ys) x = ap (λ zs. f y ++ zs) (flat_snoc f ys x) ∙ sym (append_assoc (f y) (flat_map f ys) (f x))

order_snoc : (es : List Entry) (e : Entry) → are_in_order es ≡ true → fault_after es e ≡ None → are_in_order (es ++ e ∷ []) ≡ true
order_snoc [] e ordered none = refl
order_snoc (x ∷ []) e ordered none = rw none refl
order_snoc (x ∷ y ∷ more) e ordered none =
    let t = and_parts (is_none (fault_later x y)) (are_in_order (y ∷ more)) ordered in
    rw (t.0, order_snoc (y ∷ more) e t.1 none) refl

-- ---- one line more

pub line_more : (before : List (List ℕ)) (line : List ℕ) (es : List Entry) (r : Result (Option Entry) Wrong) → entry_of line ≡ r → fault_of es r ≡ None → AreOfSchedule before es → AreOfSchedule (before ++ line ∷ []) (es ++ said r)
line_more before line es (Err w) is none h = absurd cc
line_more before line es (Ok None) is none h =
    record {
      readable = all_snoc (λ l. is_ok (entry_of l)) before line h.readable (rw is refl);
      entries_are = append-nil es ∙ h.entries_are ∙ sym (append-nil (entries_of before)) ∙ sym (flat_snoc (λ l. said (entry_of l)) before line ∙ ap (λ x. entries_of before ++ said x) is);
      in_order = rw (append-nil es) h.in_order;
    }
line_more before line es (Ok (Some e)) is none h =
    record {
      readable = all_snoc (λ l. is_ok (entry_of l)) before line h.readable (rw is refl);
      entries_are = ap (λ xs. xs ++ e ∷ []) h.entries_are ∙ sym (flat_snoc (λ l. said (entry_of l)) before line ∙ ap (λ x. entries_of before ++ said x) is);
      in_order = order_snoc es e h.in_order none;
    }

-- ---- the lines of a text

pub line_cut : (line others : List ℕ) → Lacks 10 line → lines_of (line ++ 10 ∷ others) ≡ line ∷ lines_of others
line_cut line others lacks = slice_split_at is_line_feed line 10 others (none_passes 10 line lacks) refl

pub line_last : (line : List ℕ) → Lacks 10 line → lines_of line ≡ line ∷ []
line_last line lacks = slice_split_none is_line_feed line (none_passes 10 line lacks)

-- the lines in front of line `number` of the text are read, and the rest is not
pub record ReadsOn (text rest : List ℕ) (number : ℕ) (es : List Entry) : Type 0 where
  pub before : List (List ℕ)
  pub lines : lines_of text ≡ before ++ lines_of rest
  pub number_is : number ≡ length before + 1
  pub few : length before + length rest ≤ length text
  pub of_schedule : AreOfSchedule before es

length_snoc : {A : Type 0} (xs : List A) (x : A) → length (xs ++ x ∷ []) ≡ suc (length xs)
length_snoc [] x = refl
length_snoc (y ∷ ys) x = ap suc (length_snoc ys x)

length_cut : (line others : List ℕ) → length (line ++ 10 ∷ others) ≡ suc (length line + length others)
length_cut [] others = omega arith
length_cut (x ∷ line) others = omega (arith, length_cut line others)

pub goes_on : (text rest line others : List ℕ) (number : ℕ) (es : List Entry) → ReadsOn text rest number es → rest ≡ line ++ 10 ∷ others → Lacks 10 line → fault_of es (entry_of line) ≡ None → ReadsOn text others (number + 1) (es ++ said (entry_of line))
goes_on text rest line others number es h is lacks none =
    let cut : lines_of rest ≡ line ∷ lines_of others = ap lines_of is ∙ line_cut line others lacks in
    record {
      before = h.before ++ line ∷ [];
      lines = h.lines ∙ ap (λ ls. h.before ++ ls) cut ∙ sym (append_assoc h.before (line ∷ []) (lines_of others));
      number_is = omega (arith, h.number_is, length_snoc h.before line);
      few = omega (arith, h.few, length_snoc h.before line, length_cut line others, ap length is);
      of_schedule = line_more h.before line es (entry_of line) refl none h.of_schedule;
    }

pub ends : (text rest : List ℕ) (number : ℕ) (es : List Entry) → ReadsOn text rest number es → Lacks 10 rest → fault_of es (entry_of rest) ≡ None → AreOfSchedule (lines_of text) (es ++ said (entry_of rest))
ends text rest number es h lacks none =
    let lines : lines_of text ≡ h.before ++ rest ∷ [] = h.lines ∙ ap (λ ls. h.before ++ ls) (line_last rest lacks) in
    rw lines (line_more h.before rest es (entry_of rest) refl none h.of_schedule)

pub fails : (text rest line : List ℕ) (after : List (List ℕ)) (number : ℕ) (es : List Entry) (w : Wrong) → ReadsOn text rest number es → lines_of rest ≡ line ∷ after → fault_of es (entry_of line) ≡ Some w → IsFirstFault (lines_of text) number w
fails text rest line after number es w h is fault =
    record {
      before = h.before;
      bad = line;
      after = after;
      lines_are = h.lines ∙ ap (λ ls. h.before ++ ls) is;
      number_is = h.number_is;
      entries = es;
      of_schedule = h.of_schedule;
      fault_is = fault;
    }

-- ---- the last entry

-- what is wrong with an entry after the one that may be there
abbrev pub fault_last : Option Entry → Entry → Option Wrong
fault_last None e = None
fault_last (Some x) e = fault_later x e

pub last_decides : (es : List Entry) (e : Entry) → fault_after es e ≡ fault_last (slice_get es (length es - 1)) e
last_decides [] e = refl
last_decides (x ∷ []) e = refl
last_decides (x ∷ y ∷ more) e =
    let one : length (x ∷ y ∷ more) - 1 ≡ suc (length (y ∷ more) - 1) = omega arith in
    rw one (last_decides (y ∷ more) e)

-- ---- what an answer says if there is none

pub where_none : {A : Type 0} (r : Option A) (P : Type 0) → r ≡ None → IfNone r P → P
where_none None P is h = h
where_none (Some x) P is h = absurd cc
