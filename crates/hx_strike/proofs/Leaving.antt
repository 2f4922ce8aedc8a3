-- The lines of a tape that stay, written one after the other.
use Rattle.std.proofs.Common.{◌≡◌, ℕ, suc, ◌+◌, ◌<◌, Bool, true, false, cond, not, List, [], ◌∷◌, ◌++◌, map, length, take, drop, get_or, zero, Option, None, refl, sym, ap, ◌∙◌, subst, append_assoc, arith, take-append-drop}
use Rattle.std.specs.List.{AllByRecursion}
use Rattle.std.specs.Io.KnownBytes.{Appends, Consumes, IsAtEnd}
use Rattle.std.proofs.KnownBytes.{Appends-trans}
use Rattle.std.proofs.Math.Seq.{take-append-add}
use Rattle.std.proofs.lemmas.List.{append-nil}
use Rattle.std.proofs.lemmas.List.Elements.{filter-append}
use Rattle.hx_market.specs.QuietChains.{Choice, bears}
use Rattle.hx_members.specs.Setups.{Setup}
use Rattle.hx_market.specs.Markets.{Market}
use Rattle.hx_market.specs.Steps.{run}
use Rattle.hx_audit.specs.declared.auditor.Whose.{Whose}
use Rattle.hx_audit.specs.Recording.{AreRecorded}
use Rattle.hx_audit.specs.Auditing.{Audit, HasTaken, IsStranger, choice_of, is_borne}
use Rattle.hx_audit.specs.declared.bearing.Bearing.{Bearing}
use Rattle.hx_units.specs.Cuts.{Lacks}
use Rattle.hx_units.proofs.Splits.{same_split, none_split}
use Rattle.hx_tape_lines.specs.Text.{Entry, line, tape}
use Rattle.hx_tape_lines.specs.Events.{event_of, IsKnown}
use Rattle.hx_replay.specs.Run.{IsFront}
use Rattle.hx_replay.specs.Struck.{without_chosen, left_by}
use Rattle.hx_strike.specs.Striking.{counts_of_lines, Echoes, StrikesAll, StrikesSome}
use Rattle.hx_strike.specs.Taking.{AreBearings, IsTape, Takes}
use Rattle.hx_replay.proofs.OneReading.{line_no_feed, tape-cons}
use Rattle.hx_replay.proofs.Runs.{tape-append}
use Rattle.hx_replay.proofs.Strikes.{recorded}

-- the line whose tokens are at an index, and the next index
pub record LineAt (es : List Entry) (i n : ℕ) (b : Bearing) : Type 0 where
  pub entry : Entry
  pub known : IsKnown entry
  pub bears : (choice : Choice) → is_borne choice b ≡ bears choice (event_of entry)
  pub before : take n es ≡ take i es ++ entry ∷ []
  pub after : drop i es ≡ entry ∷ drop n es

at_index : (es : List Entry) (bs : List Bearing) (i : ℕ) (d : Bearing) → AllByRecursion IsKnown es → AreBearings (map event_of es) bs → i < length bs → LineAt es i (suc i) (get_or bs i d)
at_index [] [] i d k h below = absurd (omega (arith, below))
at_index [] (c ∷ bs) i d k h below = absurd h
at_index (e ∷ es) [] i d k h below = absurd h
at_index (e ∷ es) (c ∷ bs) zero d k h below = record {
  entry = e;
  known = k.0;
  bears = h.0;
  before = at es;
  after = at_all es;
}
  where
    at : (xs : List Entry) → e ∷ take 0 xs ≡ [] ++ e ∷ []
    at [] = refl
    at (x ∷ xs) = refl

    at_all : (xs : List Entry) → e ∷ xs ≡ e ∷ drop 0 xs
    at_all [] = refl
    at_all (x ∷ xs) = refl
at_index (e ∷ es) (c ∷ bs) (suc i) d k h below =
    let r = at_index es bs i d k.1 h.1 (omega (arith, below)) in
    record {
      entry = r.entry;
      known = r.known;
      bears = r.bears;
      before = ap (λ (l : List Entry). e ∷ l) r.before;
      after = r.after;
    }

pub line_at : (es : List Entry) (bs : List Bearing) (i : ℕ) (d : Bearing) → AllByRecursion IsKnown es → AreBearings (map event_of es) bs → i < length bs → LineAt es i (i + 1) (get_or bs i d)
line_at es bs i d k h below = subst (λ n. LineAt es i n (get_or bs i d)) (next i) (at_index es bs i d k h below)
  where
    next : (j : ℕ) → suc j ≡ j + 1
    next j = omega arith

-- no tokens
pub no_bearing : Bearing
no_bearing = record { member = 0; first = None; second = None }

-- ---- cutting it off

-- the rest of the text is that line and the others
pub record IsCut (es : List Entry) (i : ℕ) (entry : Entry) (text others : List ℕ) : Type 0 where
  pub line_is : text ≡ line entry
  pub others_are : others ≡ tape (drop (i + 1) es)

pub cut_off : (es : List Entry) (i : ℕ) (b : Bearing) (rest text others : List ℕ) (l : LineAt es i (i + 1) b) → rest ≡ tape (drop i es) → rest ≡ text ++ 10 ∷ others → Lacks 10 text → IsCut es i l.entry text others
cut_off es i b rest text others l is cut lacks =
    let whole : rest ≡ line l.entry ++ 10 ∷ tape (drop (i + 1) es) =
    is ∙ ap tape l.after ∙ tape-cons l.entry (drop (i + 1) es) in
    let same = same_split 10 text others (line l.entry) (tape (drop (i + 1) es)) lacks (line_no_feed l.entry l.known.entry) (sym cut ∙ whole) in
    record { line_is = same.0; others_are = same.1 }

-- a line is there
pub is_there : (es : List Entry) (bs : List Bearing) (i : ℕ) → AllByRecursion IsKnown es → AreBearings (map event_of es) bs → i < length bs → Lacks 10 (tape (drop i es)) → ⊥
is_there [] [] i k h below lacks = omega (arith, below)
is_there [] (c ∷ bs) i k h below lacks = h
is_there (e ∷ es) [] i k h below lacks = h
is_there (e ∷ es) (c ∷ bs) zero k h below lacks = none_split 10 (line e) (tape es) (subst (Lacks 10) (tape-cons e es) lacks)
is_there (e ∷ es) (c ∷ bs) (suc i) k h below lacks = is_there es bs i k.1 h.1 (omega (arith, below)) lacks

-- the number of lines is that of their bearings
pub as_many : (es : List Entry) (bs : List Bearing) → AreBearings (map event_of es) bs → length es ≡ length bs
as_many [] [] h = refl
as_many [] (c ∷ bs) h = absurd h
as_many (e ∷ es) [] h = absurd h
as_many (e ∷ es) (c ∷ bs) h = let more = as_many es bs h.1 in omega (arith, more)

-- the line with its line feed, cut from the rest
pub with_feed : (rest text others : List ℕ) (n : ℕ) → rest ≡ text ++ 10 ∷ others → n ≡ length text → take (n + 1) rest ≡ text ++ 10 ∷ []
with_feed rest text others n cut size =
    ap (λ k. take (k + 1) rest) size ∙ ap (λ (x : List ℕ). take (length text + 1) x) cut ∙ take-append-add text (10 ∷ others) 1
    ∙ ap (λ (x : List ℕ). text ++ x) (one others)
  where
    one : (x : List ℕ) → take 1 (10 ∷ x) ≡ 10 ∷ []
    one [] = refl
    one (y ∷ x) = refl

-- ---- the lines so far

left : (choice : Choice) (es : List Entry) (i : ℕ) (b : Bearing) (l : LineAt es i (i + 1) b) → without_chosen choice (take (i + 1) es) ≡ without_chosen choice (take i es) ++ cond (not (is_borne choice b)) (l.entry ∷ []) []
left choice es i b l =
    ap (without_chosen choice) l.before ∙ filter-append (λ e. not (bears choice (event_of e))) (take i es) (l.entry ∷ [])
    ∙ ap (λ (x : Bool). without_chosen choice (take i es) ++ cond (not x) (l.entry ∷ []) []) (sym (l.bears choice))

pub stays : (choice : Choice) (es : List Entry) (i : ℕ) (b : Bearing) (l : LineAt es i (i + 1) b) → is_borne choice b ≡ false → without_chosen choice (take (i + 1) es) ≡ without_chosen choice (take i es) ++ l.entry ∷ []
stays choice es i b l h = left choice es i b l ∙ ap (λ (x : Bool). without_chosen choice (take i es) ++ cond (not x) (l.entry ∷ []) []) h

pub goes : (choice : Choice) (es : List Entry) (i : ℕ) (b : Bearing) (l : LineAt es i (i + 1) b) → is_borne choice b ≡ true → without_chosen choice (take (i + 1) es) ≡ without_chosen choice (take i es)
goes choice es i b l h =
    left choice es i b l ∙ ap (λ (x : Bool). without_chosen choice (take i es) ++ cond (not x) (l.entry ∷ []) []) h
    ∙ append-nil (without_chosen choice (take i es))

one_line : (e : Entry) → tape (e ∷ []) ≡ line e ++ 10 ∷ []
one_line e = tape-cons e []

-- one line more was written
pub wrote_more : (w v u : Option (List ℕ)) (retained : List Entry) (e : Entry) → Appends w v (tape retained) → Appends v u (line e ++ 10 ∷ []) → Appends w u (tape (retained ++ e ∷ []))
wrote_more w v u retained e p q =
    subst (Appends w u) (ap (λ (x : List ℕ). tape retained ++ x) (sym (one_line e)) ∙ sym (tape-append retained (e ∷ [])))
    (Appends-trans w v u (tape retained) (line e ++ 10 ∷ []) p q)

-- the beginning of a line more, which is a beginning of all that stays
pub front_more : (choice : Choice) (es : List Entry) (i : ℕ) (b : Bearing) (l : LineAt es i (i + 1) b) (part rest : List ℕ) → is_borne choice b ≡ false → line l.entry ++ 10 ∷ [] ≡ part ++ rest
    → IsFront (tape (without_chosen choice (take i es)) ++ part) (tape (without_chosen choice es))
front_more choice es i b l part rest h is =
    let retained : List Entry = without_chosen choice (take i es) in
    let more : List Entry = without_chosen choice (drop (i + 1) es) in
    let split : without_chosen choice es ≡ (retained ++ l.entry ∷ []) ++ more =
    ap (without_chosen choice) (sym (take-append-drop (i + 1) es)) ∙ filter-append (λ e. not (bears choice (event_of e))) (take (i + 1) es) (drop (i + 1) es)
    ∙ ap (λ (x : List Entry). x ++ more) (stays choice es i b l h) in (
      rest ++ tape more,
      ap tape split ∙ tape-append (retained ++ l.entry ∷ []) more
          ∙ ap (λ (x : List ℕ). x ++ tape more) (tape-append retained (l.entry ∷ []) ∙ ap (λ (x : List ℕ). tape retained ++ x) (one_line l.entry ∙ is))
          ∙ ap (λ (x : List ℕ). x ++ tape more) (sym (append_assoc (tape retained) part rest))
          ∙ append_assoc (tape retained ++ part) rest (tape more),
    )

-- ---- a whole tape, whose lines were taken

pub whole_is : (a : Audit) (bs : List Bearing) (all : List ℕ) → (t : Takes a bs all []) → all ≡ tape t.entries
whole_is a bs all t = t.text_is ∙ append-nil (tape t.entries)

abbrev pub tape_of : (a : Audit) (bs bearings : List Bearing) (all text : List ℕ) → Takes a bs all [] → bearings ≡ bs → text ≡ all → IsTape text bearings
tape_of a bs bearings all text t same is = record {
  entries = t.entries;
  are_known = t.are_known;
  bearings_are = subst (AreBearings (map event_of t.entries)) (sym same) t.bearings_are;
  text_is = is ∙ whole_is a bs all t;
}

left_is : (setup : Setup) (whose : Whose) (a : Audit) (es : List Entry) → a.setup ≡ setup → a.whose ≡ whose → HasTaken a (map event_of es) → without_chosen (choice_of a.whose a.market) es ≡ left_by setup whose es
left_is setup whose a es same is taken =
    ap (λ (w : Whose). without_chosen (choice_of w a.market) es) is
    ∙ ap (λ (m : Market). without_chosen (choice_of whose m) es) (taken.market_is ∙ ap (λ (s : Setup). run s (map event_of es)) same)

pub strikes_all : (setup : Setup) (whose : Whose) (a : Audit) (bs : List Bearing) (text : List ℕ) (count : ℕ) (r s w v : Option (List ℕ)) → a.setup ≡ setup → a.whose ≡ whose → (t : Takes a bs text [])
    → Consumes r s text → IsAtEnd s → count ≡ length (without_chosen (choice_of a.whose a.market) t.entries) → Appends w v (tape (without_chosen (choice_of a.whose a.market) t.entries))
    → StrikesAll setup (left_by setup whose) (counts_of_lines count) r s w v
strikes_all setup whose a bs text count r s w v same is t read end many wrote =
    let stays = left_is setup whose a t.entries same is t.taken in
    record {
      events = t.entries;
      are_events = recorded setup t.entries t.are_known (subst (λ (x : Setup). AreRecorded x (map event_of t.entries)) same t.taken.recorded);
      read = subst (Consumes r s) (whole_is a bs text t) read;
      at_end = end;
      counts_are = ap counts_of_lines (many ∙ ap length stays);
      wrote = subst (λ (es : List Entry). Appends w v (tape es)) stays wrote;
    }

pub strikes_some : (setup : Setup) (whose : Whose) (a : Audit) (bs : List Bearing) (text front : List ℕ) (r s w v : Option (List ℕ)) → a.setup ≡ setup → a.whose ≡ whose → (t : Takes a bs text [])
    → Consumes r s text → IsAtEnd s → IsFront front (tape (without_chosen (choice_of a.whose a.market) t.entries)) → Appends w v front
    → StrikesSome setup (left_by setup whose) r s w v
strikes_some setup whose a bs text front r s w v same is t read end begins wrote =
    record {
      events = t.entries;
      are_events = recorded setup t.entries t.are_known (subst (λ (x : Setup). AreRecorded x (map event_of t.entries)) same t.taken.recorded);
      read = subst (Consumes r s) (whole_is a bs text t) read;
      at_end = end;
      front = front;
      is_front = subst (λ (es : List Entry). IsFront front (tape es)) (left_is setup whose a t.entries same is t.taken) begins;
      wrote = wrote;
    }

-- of a number that is no member's no line is struck: all that was read is written
pub echoes : (setup : Setup) (whose : Whose) (a : Audit) (text all : List ℕ) (r s w v : Option (List ℕ)) → a.setup ≡ setup → a.whose ≡ whose → text ≡ all
    → Consumes r s all → (IsStranger a.setup a.whose → Appends w v text) → IsStranger setup whose → Echoes r s w v
echoes setup whose a text all r s w v same is whole read wrote stranger =
    let there = subst (λ (x : Setup). IsStranger x a.whose) (sym same) (subst (IsStranger setup) (sym is) stranger) in
    (all, read, subst (Appends w v) whole (wrote there))
