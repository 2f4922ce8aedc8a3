-- A tape whose lines are taken as they are read: one line more, and the first line that fails a check.
use Rattle.std.proofs.Common.{◌≡◌, ℕ, ◌+◌, ◌≤◌, ◌<◌, List, [], ◌∷◌, ◌++◌, map, length, take, drop, ◌-◌, Option, Some, None, refl, sym, ap, ◌∙◌, subst, append_assoc, inl, inr, arith}
use Rattle.std.proofs.lemmas.List.{length-map, map-append, length-append, length-drop, drop-append-le, drop_all}
use Rattle.std.specs.Io.KnownBytes.{Consumes, IsAtEnd}
use Rattle.std.proofs.KnownBytes.{Appends-nil, Consumes-trans}
use Rattle.hx_replay.proofs.PieceByPiece.{read_on}
use Rattle.hx_members.specs.Setups.{Setup}
use Rattle.hx_rules.specs.declared.event.Event.{Event}
use Rattle.hx_rules.specs.declared.fault.PrepareError.{PrepareError}
use Rattle.hx_rules.specs.declared.fault.PrepareError.TheVariants as refused
use Rattle.hx_market.specs.Markets.{Market}
use Rattle.hx_market.specs.Refusals.{refusal, or_no_memory}
use Rattle.hx_market.specs.QuietChains.{Choice, bears}
use Rattle.hx_audit.specs.Auditing.{Audit, HasTaken, is_borne}
use Rattle.hx_audit.specs.declared.bearing.Bearing.{Bearing}
use Rattle.hx_units.specs.Cuts.{Lacks}
use Rattle.hx_tape_lines.specs.declared.fault.Kind.{Kind}
use Rattle.hx_tape_lines.specs.declared.fault.Kind.TheVariants as kind
use Rattle.hx_replay.specs.declared.fault.TapeError.{TapeError}
use Rattle.hx_replay.specs.declared.fault.TapeError.TheVariants as fault
use Rattle.hx_tape_lines.specs.Text.{Entry, line, tape}
use Rattle.hx_tape_lines.specs.Events.{event_of, IsLineOf, IsNoLine}
use Rattle.hx_replay.specs.Run.{Progress, start, kind_of, fault_of, check_of, after_all, FailsAs, BeginsBadly}
use Rattle.hx_replay.specs.FirstFaults.{FirstFault}
use Rattle.hx_strike.specs.Striking.{StrikeStops}
use Rattle.hx_strike.specs.Taking.{AreBearings, Takes, IsFaultOf, StopsReading}
use Rattle.hx_replay.proofs.Applying.{unknown_is_bad}
use Rattle.hx_replay.proofs.OneReading.{tape-cons}
use Rattle.hx_replay.proofs.Runs.{tape-append}
use Rattle.hx_replay.proofs.Strikes.{recorded, refused_then, all_more}
use Rattle.hx_units.proofs.Lists.{take-rest}

-- ---- one line more

bearings_more : (vs : List Event) (bs : List Bearing) (v : Event) (b : Bearing) → AreBearings vs bs → ((choice : Choice) → is_borne choice b ≡ bears choice v) → AreBearings (vs ++ v ∷ []) (bs ++ b ∷ [])
bearings_more [] [] v b h k = (k, tt)
bearings_more [] (c ∷ bs) v b h k = absurd h
bearings_more (u ∷ vs) [] v b h k = absurd h
bearings_more (u ∷ vs) (c ∷ bs) v b h k = (h.0, bearings_more vs bs v b h.1 k)

bearings_length : (vs : List Event) (bs : List Bearing) → AreBearings vs bs → length vs ≡ length bs
bearings_length [] [] h = refl
bearings_length [] (c ∷ bs) h = absurd h
bearings_length (u ∷ vs) [] h = absurd h
bearings_length (u ∷ vs) (c ∷ bs) h = let more = bearings_length vs bs h.1 in omega (arith, more)

pub takes_more : (a next : Audit) (bs : List Bearing) (b : Bearing) (all bytes others : List ℕ) (event : Event) → Takes a bs all (bytes ++ 10 ∷ others) → IsLineOf bytes event
    → ((events : List Event) → HasTaken a events → HasTaken next (events ++ event ∷ [])) → ((choice : Choice) → is_borne choice b ≡ bears choice event) → Takes next (bs ++ b ∷ []) all others
takes_more a next bs b all bytes others event t l more bearing =
    let es : List Entry = t.entries in
    let events_are : map event_of es ++ event ∷ [] ≡ map event_of (es ++ l.entry ∷ []) =
    ap (λ (v : Event). map event_of es ++ v ∷ []) l.event_is ∙ sym (map-append event_of es (l.entry ∷ [])) in
    record {
      entries = es ++ l.entry ∷ [];
      are_known = all_more es l.entry t.are_known l.is_known;
      taken = subst (HasTaken next) events_are (more (map event_of es) t.taken);
      bearings_are = subst (λ (vs : List Event). AreBearings vs (bs ++ b ∷ [])) events_are (bearings_more (map event_of es) bs event b t.bearings_are bearing);
      text_is =
          t.text_is ∙ ap (λ (x : List ℕ). tape es ++ x) (ap (λ (x : List ℕ). x ++ 10 ∷ others) l.is_line ∙ one_line)
          ∙ sym (append_assoc (tape es) (tape (l.entry ∷ [])) others) ∙ ap (λ (x : List ℕ). x ++ others) (sym (tape-append es (l.entry ∷ [])));
    }
  where
    one_line : line l.entry ++ 10 ∷ others ≡ tape (l.entry ∷ []) ++ others
    one_line = sym (ap (λ (x : List ℕ). x ++ others) (tape-cons l.entry []) ∙ append_assoc (line l.entry) (10 ∷ []) others)

-- more text is after what was taken
pub takes_on : (a : Audit) (bs : List Bearing) (all rest piece : List ℕ) → Takes a bs all rest → Takes a bs (all ++ piece) (rest ++ piece)
takes_on a bs all rest piece t = record {
  entries = t.entries;
  are_known = t.are_known;
  taken = t.taken;
  bearings_are = t.bearings_are;
  text_is = ap (λ (x : List ℕ). x ++ piece) t.text_is ∙ append_assoc (tape t.entries) rest piece;
}

drop_front : (xs ys : List ℕ) (n : ℕ) → n ≡ length xs → drop n (xs ++ ys) ≡ ys
drop_front xs ys n h = ap (λ k. drop k (xs ++ ys)) h ∙ at xs
  where
    at : (l : List ℕ) → drop (length l) (l ++ ys) ≡ ys
    at [] = at_none ys
      where
        at_none : (l : List ℕ) → drop 0 l ≡ l
        at_none [] = refl
        at_none (x ∷ l) = refl
    at (x ∷ l) = at l

-- what is left stands at the end of the text
pub rest_is : (a : Audit) (bs : List Bearing) (all rest : List ℕ) (n : ℕ) → Takes a bs all rest → n + length rest ≡ length all → drop n all ≡ rest
rest_is a bs all rest n t size =
    let len : length all ≡ length (tape t.entries) + length rest = ap length t.text_is ∙ length-append (tape t.entries) rest in
    ap (λ (x : List ℕ). drop n x) t.text_is ∙ drop_front (tape t.entries) rest n (omega (arith, len, size))

-- ---- the first line that fails a check

first_fault : (End : Type 0) (a : Audit) (bs : List Bearing) (all rest : List ℕ) (n : ℕ) (k : Kind) → (t : Takes a bs all rest) → n ≡ length bs + 1 → BeginsBadly End (after_all (start a.setup) t.entries) k rest
    → FirstFault End a.setup n k all
first_fault End a bs all rest n k t number why = record {
  events = t.entries;
  are_events = recorded a.setup t.entries t.are_known t.taken.recorded;
  rest = rest;
  text_is = t.text_is;
  number = number ∙ ap (λ j. j + 1) (sym (bearings_length (map event_of t.entries) bs t.bearings_are) ∙ length-map t.entries event_of);
  why = why;
}

-- a line of no event
pub no_event : (a : Audit) (bs : List Bearing) (all bytes others : List ℕ) → Takes a bs all (bytes ++ 10 ∷ others) → Lacks 10 bytes → IsNoLine bytes → FirstFault ⊥ a.setup (length bs + 1) kind.Bad all
no_event a bs all bytes others t lacks none =
    let p : Progress = after_all (start a.setup) t.entries in
    first_fault ⊥ a bs all (bytes ++ 10 ∷ others) (length bs + 1) kind.Bad t refl (inl (bytes, others, refl, lacks, at p none))
  where
    at : (p : Progress) → IsNoLine bytes → FailsAs p kind.Bad bytes
    at p (inl f) = inl (refl, f)
    at p (inr f) = inr (f.0, f.1, f.2, unknown_is_bad p f.0 f.3)

-- a line whose event the market refuses
pub refused_line : (a : Audit) (bs : List Bearing) (all bytes others : List ℕ) (event : Event) (n : ℕ) (error : PrepareError) → Takes a bs all (bytes ++ 10 ∷ others) → IsLineOf bytes event → Lacks 10 bytes
    → error ≡ or_no_memory (refusal a.setup a.market.recorded event) → n ≡ length bs + 1 → IsFaultOf ⊥ a.setup all (fault_of n error)
refused_line a bs all bytes others event n error t l lacks is number = at (refusal a.setup a.market.recorded event) refl is
  where
    p : Progress
    p = after_all (start a.setup) t.entries

    fails : (e : PrepareError) → refusal a.setup a.market.recorded event ≡ Some e → check_of p l.entry ≡ kind_of (Some e)
    fails e h =
        refused_then a.setup t.entries l.entry e l.is_known.known
        (ap (λ (m : Market). refusal a.setup m.recorded (event_of l.entry)) (sym t.taken.market_is)
        ∙ ap (λ (v : Event). refusal a.setup a.market.recorded v) (sym l.event_is) ∙ h)

    found : (k : Kind) → check_of p l.entry ≡ Some k → FirstFault ⊥ a.setup n k all
    found k h = first_fault ⊥ a bs all (bytes ++ 10 ∷ others) n k t number (inl (bytes, others, refl, lacks, inr (l.entry, l.is_known.entry, l.is_line, h)))

    by_reason : (e : PrepareError) → refusal a.setup a.market.recorded event ≡ Some e → IsFaultOf ⊥ a.setup all (fault_of n e)
    by_reason refused.NoMemory h = tt
    by_reason refused.BadTime h = found kind.Time (fails refused.BadTime h)
    by_reason refused.NoMember h = found kind.Member (fails refused.NoMember h)
    by_reason (refused.Limit m) h = found kind.Limit (fails (refused.Limit m) h)

    at : (o : Option PrepareError) → refusal a.setup a.market.recorded event ≡ o → error ≡ or_no_memory o → IsFaultOf ⊥ a.setup all (fault_of n error)
    at None h e = subst (λ (x : PrepareError). IsFaultOf ⊥ a.setup all (fault_of n x)) (sym e) tt
    at (Some x) h e = subst (λ (y : PrepareError). IsFaultOf ⊥ a.setup all (fault_of n y)) (sym e) (by_reason x h)

-- more than a line's bytes without a line feed
pub too_long : (a : Audit) (bs : List Bearing) (all rest : List ℕ) → Takes a bs all rest → Lacks 10 rest → 2066 < length rest → FirstFault ⊥ a.setup (length bs + 1) kind.Bad all
too_long a bs all rest t lacks long = first_fault ⊥ a bs all rest (length bs + 1) kind.Bad t refl (inr (refl, lacks, inl long))

-- a last line without its line feed
pub broken_off : (End : Type 0) (a : Audit) (bs : List Bearing) (all rest : List ℕ) → Takes a bs all rest → Lacks 10 rest → 0 < length rest → End → FirstFault End a.setup (length bs + 1) kind.Bad all
broken_off End a bs all rest t lacks some end = first_fault End a bs all rest (length bs + 1) kind.Bad t refl (inr (refl, lacks, inr (some, end)))

-- a fault within the text is one of a tape that goes on, or not
begins_so : (End : Type 0) (p : Progress) (k : Kind) (rest : List ℕ) → BeginsBadly ⊥ p k rest → BeginsBadly End p k rest
begins_so End p k rest (inl h) = inl h
begins_so End p k rest (inr (is, lacks, inl long)) = inr (is, lacks, inl long)
begins_so End p k rest (inr (is, lacks, inr h)) = absurd h.1

pub stops_so : (setup : Setup) (all : List ℕ) (e : TapeError) (r s : Option (List ℕ)) → Consumes r s all → IsFaultOf ⊥ setup all e → StopsReading setup e r s
stops_so setup all (fault.Line n k) r s read h = record {
  text = all;
  read = read;
  fault = record { events = h.events; are_events = h.are_events; rest = h.rest; text_is = h.text_is; number = h.number; why = begins_so _ (after_all (start setup) h.events) k h.rest h.why };
}
stops_so setup all fault.NoMemory r s read h = (all, read)
stops_so setup all fault.Read r s read h = absurd h
stops_so setup all fault.Write r s read h = absurd h
stops_so setup all fault.Turns r s read h = absurd h

pub taken_on : (a : Audit) (bs : List Bearing) (text piece more : List ℕ) (n : ℕ) → Takes a bs text (drop n text) → n ≤ length text → more ≡ text ++ piece → Takes a bs (text ++ piece) (take (length more - n) (drop n more))
taken_on a bs text piece more n t within is =
    subst (Takes a bs (text ++ piece)) (sym (drop-append-le n text piece within) ∙ ap (λ (x : List ℕ). drop n x) (sym is) ∙ sym (take-rest n more))
    (takes_on a bs text (drop n text) piece t)

pub piece_taken : (a : Audit) (bs : List Bearing) (all text rest : List ℕ) (n : ℕ) → Takes a bs all rest → text ≡ all → n + length rest ≡ length text → Takes a bs text (drop n text)
piece_taken a bs all text rest n t is size =
    let same : Takes a bs text rest = subst (λ (x : List ℕ). Takes a bs x rest) (sym is) t in
    subst (Takes a bs text) (sym (rest_is a bs text rest n same size)) same

pub piece_lacks : (a : Audit) (bs : List Bearing) (all text rest : List ℕ) (n : ℕ) → Takes a bs all rest → text ≡ all → n + length rest ≡ length text → Lacks 10 rest → Lacks 10 (drop n text)
piece_lacks a bs all text rest n t is size lacks =
    let same : Takes a bs text rest = subst (λ (x : List ℕ). Takes a bs x rest) (sym is) t in
    subst (Lacks 10) (sym (rest_is a bs text rest n same size)) lacks

pub rest_within : (a : Audit) (bs : List Bearing) (all text rest : List ℕ) → Takes a bs all rest → text ≡ all → length rest ≤ length text
rest_within a bs all text rest t is =
    let size : length text ≡ length (tape t.entries) + length rest = ap length (is ∙ t.text_is) ∙ length-append (tape t.entries) rest in
    omega (arith, size)

-- ---- the end of what was read

pub nothing_left : (a : Audit) (bs : List Bearing) (text : List ℕ) (n : ℕ) → Takes a bs text (drop n text) → length text ≤ n → Takes a bs text []
nothing_left a bs text n t all = subst (Takes a bs text) (drop_all n text all) t

pub ends_in_line : (setup : Setup) (a : Audit) (bs : List Bearing) (text : List ℕ) (n : ℕ) (r s s' : Option (List ℕ)) → a.setup ≡ setup → Takes a bs text (drop n text) → Lacks 10 (drop n text) → n < length text
    → Consumes r s text → Consumes s s' [] → IsAtEnd s' → StopsReading setup (fault.Line (length bs + 1) kind.Bad) r s'
ends_in_line setup a bs text n r s s' same t lacks some read none end = record {
  text = text;
  read = read_on r s s' text read none;
  fault = subst (λ (x : Setup). FirstFault (IsAtEnd s') x (length bs + 1) kind.Bad text) same (broken_off (IsAtEnd s') a bs text (drop n text) t lacks (omega (arith, length-drop n text, some)) end);
}

pub stops_in_piece : (setup was : Setup) (text piece : List ℕ) (e : TapeError) (r s s' : Option (List ℕ)) → was ≡ setup → Consumes r s text → Consumes s s' piece → IsFaultOf ⊥ was (text ++ piece) e → StopsReading setup e r s'
stops_in_piece setup was text piece e r s s' same read took h =
    stops_so setup (text ++ piece) e r s' (Consumes-trans r s s' text piece read took) (subst (λ (x : Setup). IsFaultOf ⊥ x (text ++ piece) e) same h)
