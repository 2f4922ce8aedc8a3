-- A tape that is applied in turns.
use Rattle.std.proofs.Common.{◌≡◌, ℕ, suc, zero, ◌+◌, ◌<◌, ◌≤◌, List, [], ◌∷◌, ◌++◌, map, length, take, drop, get_or, Option, refl, sym, ap, ◌∙◌, subst, append_assoc, arith}
use Rattle.std.specs.List.{AllByRecursion}
use Rattle.std.specs.Io.KnownBytes.{Appends}
use Rattle.std.proofs.lemmas.List.{append-nil, length-append, length-map, length-take, take_all, nil_from_length}
use Rattle.hx_rules.specs.declared.event.Event.{Event}
use Rattle.hx_units.specs.Cuts.{Lacks}
use Rattle.hx_replay.specs.declared.fault.TapeError.{TapeError}
use Rattle.hx_replay.specs.declared.fault.TapeError.TheVariants as fault
use Rattle.hx_tape_lines.specs.Text.{Entry, line, tape}
use Rattle.hx_tape_lines.specs.Events.{IsKnown, event_of}
use Rattle.hx_replay.specs.Run.{Progress, after, after_all, output_of, output_all, AreEvents, IsEvent, Applies, Replays, Stops, Faults, IsFew}
use Rattle.hx_replay_parallel.specs.Ahead.{AreOf, IsAhead, AppliesAll, FailsAmong, IsAtTurn}
use Rattle.hx_replay.specs.Gathering.{Gathers}
use Rattle.hx_replay.proofs.OneReading.{line_no_feed, tape-cons}
use Rattle.hx_tape_lines.proofs.OneLine.{line_same}
use Rattle.hx_replay.proofs.Runs.{tape-append, after-append, output-append, events-append, length-tape, events_counted, few_all}
use Rattle.hx_replay.proofs.PieceByPiece.{replays_then, stops_then}
use Rattle.hx_replay.proofs.Gathering.{all_written, gathers_counts}

-- ---- one event of those that were read

-- the entry of the event at an index
pub record EntryAt (es : List Entry) (i : ℕ) (x : Event) : Type 0 where
  pub entry : Entry
  pub known : IsKnown entry
  pub event_is : x ≡ event_of entry
  pub before : take (suc i) es ≡ take i es ++ entry ∷ []
  pub all : es ≡ take i es ++ entry ∷ drop (suc i) es

pub entry_at : (es : List Entry) (events : List Event) (i : ℕ) (x : Event) → AllByRecursion IsKnown es → events ≡ map event_of es → i < length events → x ≡ get_or events i x → EntryAt es i x
entry_at [] events i x known is below here = absurd (let none : length events ≡ 0 = ap length is in omega arith)
entry_at (e ∷ es) events zero x known is below here = record {
  entry = e;
  known = known.0;
  event_is = here ∙ ap (λ (l : List Event). get_or l 0 x) is;
  before = at_front es;
  all = ap (λ (l : List Entry). e ∷ l) (at_back es);
}
  where
    at_front : (xs : List Entry) → e ∷ take 0 xs ≡ e ∷ []
    at_front [] = refl
    at_front (x ∷ xs) = refl

    at_back : (xs : List Entry) → xs ≡ drop 0 xs
    at_back [] = refl
    at_back (x ∷ xs) = refl
entry_at (e ∷ es) events (suc i) x known is below here =
    let size : length events ≡ suc (length (map event_of es)) = ap length is in
    let r = entry_at es (map event_of es) i x known.1 refl (omega arith) (here ∙ ap (λ (l : List Event). get_or l (suc i) x) is) in
    record {
      entry = r.entry;
      known = r.known;
      event_is = r.event_is;
      before = ap (λ (l : List Entry). e ∷ l) r.before;
      all = ap (λ (l : List Entry). e ∷ l) r.all;
    }

pub applies_none : (c : Progress) (output : List ℕ) → output ≡ [] → AppliesAll c c [] output
applies_none c output none = record { are_events = tt; after_is = refl; output_is = none }

-- one event more
pub applies_one : (c d d' : Progress) (es : List Entry) (output more : List ℕ) (e : Entry) → AppliesAll c d es output → IsKnown e → ((outputs : List ℕ) × Applies d d' (line e) outputs × (more ≡ output ++ outputs)) → AppliesAll c d' (es ++ e ∷ []) more
applies_one c d d' es output more e h known p =
    let same : p.1.entry ≡ e = sym (line_same e p.1.entry known.entry p.1.is_event.entry p.1.is_line) in
    let passes : IsEvent (after_all c es) e = subst (λ (q : Progress). IsEvent q e) h.after_is (subst (λ (x : Entry). IsEvent d x) same p.1.is_event) in
    record {
      are_events = events-append c es (e ∷ []) h.are_events (passes, tt);
      after_is = p.1.after_is ∙ ap (λ (x : Entry). after d x) same ∙ ap (λ (q : Progress). after q e) h.after_is ∙ sym (after-append c es (e ∷ []));
      output_is = p.2 ∙ ap (λ (t : List ℕ). t ++ p.0) h.output_is ∙ ap (λ (t : List ℕ). output_all c es ++ t) (p.1.output_is ∙ ap (λ (x : Entry). output_of d x) same ∙ ap (λ (q : Progress). output_of q e) h.after_is ∙ sym (append-nil (output_of (after_all c es) e)))
          ∙ sym (output-append c es (e ∷ []));
    }

-- when out of memory, no more is said than that there are events
pub fails_without_memory : (c : Progress) (es : List Entry) (events : List Event) (output : List ℕ) → AreOf es events → 0 < length events → FailsAmong c es output fault.NoMemory
fails_without_memory c [] events output are some = absurd (let none : length events ≡ 0 = ap length are.events_are in omega arith)
fails_without_memory c (e ∷ es) events output are some = record { applied = []; bad = e; others = es; events_are = refl; are_events = tt; faults = tt; output_is = λ other. absurd (other refl) }

-- ---- a turn

-- the output is written, and the events that were read are applied
pub turned : (old d d' : Progress) (all : List ℕ) (w v u : Option (List ℕ)) (outputs telling text : List ℕ) (now next : List Event) (rest : List ℕ) → IsAtTurn old d all w v outputs now text → Appends v u outputs
    → ((es : List Entry) → AreOf es now → AppliesAll d d' es telling) → IsAhead text next rest → IsAtTurn old d' all w u telling next rest
turned old d d' all w v u outputs telling text now next rest t wrote applied ahead =
    let r : Replays old d all w u t.pending = all_written old d all w v u outputs t.pending t.gathers wrote in
    let es = t.ahead.entries in
    let p : AppliesAll d d' es telling = applied es t.ahead.are in
    record {
      pending = text;
      gathers = record {
        events = r.events ++ es;
        are_events = events-append old r.events es r.are_events (subst (λ (q : Progress). AreEvents q es) r.after_is p.are_events);
        text_is = r.text_is ∙ ap (λ (x : List ℕ). tape r.events ++ x) t.ahead.text_is ∙ sym (append_assoc (tape r.events) (tape es) text) ∙ ap (λ (x : List ℕ). x ++ text) (sym (tape-append r.events es));
        after_is = p.after_is ∙ ap (λ (q : Progress). after_all q es) r.after_is ∙ sym (after-append old r.events es);
        written = output_all old r.events;
        wrote = r.wrote;
        output_is = output-append old r.events es ∙ ap (λ (q : Progress). output_all old r.events ++ output_all q es) (sym r.after_is) ∙ ap (λ (x : List ℕ). output_all old r.events ++ x) (sym p.output_is);
      };
      ahead = ahead;
    }

-- the events before one that fails
pub record AtFault (old : Progress) (all : List ℕ) (w u : Option (List ℕ)) (telling : List ℕ) (e : TapeError) : Type 0 where
  pub at : Progress
  pub gathered : List ℕ
  pub rest : List ℕ
  pub text : List ℕ
  pub others : List ℕ
  pub gathers : Gathers old at all w u gathered rest
  pub cut : rest ≡ text ++ 10 ∷ others
  pub lacks : Lacks 10 text
  pub faults : Faults at text e
  pub outputs : (e ≡ fault.NoMemory → ⊥) → telling ≡ gathered

known_at : (es : List Entry) (e : Entry) (fs : List Entry) → AllByRecursion IsKnown (es ++ e ∷ fs) → IsKnown e
known_at [] e fs h = h.0
known_at (x ∷ es) e fs h = known_at es e fs h.1

pub at_fault : (old d : Progress) (all : List ℕ) (w v u : Option (List ℕ)) (outputs telling text : List ℕ) (now : List Event) (e : TapeError) → IsAtTurn old d all w v outputs now text → Appends v u outputs
    → ((es : List Entry) → AreOf es now → FailsAmong d es telling e) → AtFault old all w u telling e
at_fault old d all w v u outputs telling text now e t wrote failed =
    let r : Replays old d all w u t.pending = all_written old d all w v u outputs t.pending t.gathers wrote in
    let es = t.ahead.entries in
    let f : FailsAmong d es telling e = failed es t.ahead.are in
    let later = tape f.others ++ text in
    let known : IsKnown f.bad = known_at f.applied f.bad f.others (subst (λ (l : List Entry). AllByRecursion IsKnown l) f.events_are t.ahead.are.are_known) in
    let rest = line f.bad ++ 10 ∷ later in
    let lines : tape (f.bad ∷ f.others) ++ text ≡ rest = ap (λ (x : List ℕ). x ++ text) (tape-cons f.bad f.others) ∙ append_assoc (line f.bad) (10 ∷ tape f.others) text in
    let from : t.pending ≡ tape f.applied ++ rest = t.ahead.text_is ∙ ap (λ (l : List Entry). tape l ++ text) f.events_are ∙ ap (λ (x : List ℕ). x ++ text) (tape-append f.applied (f.bad ∷ f.others)) ∙ append_assoc (tape f.applied) (tape (f.bad ∷ f.others)) text
    ∙ ap (λ (x : List ℕ). tape f.applied ++ x) lines in
    record {
      at = after_all d f.applied;
      gathered = output_all d f.applied;
      rest = rest;
      text = line f.bad;
      others = later;
      gathers = record {
        events = r.events ++ f.applied;
        are_events = events-append old r.events f.applied r.are_events (subst (λ (q : Progress). AreEvents q f.applied) r.after_is f.are_events);
        text_is = r.text_is ∙ ap (λ (x : List ℕ). tape r.events ++ x) from ∙ sym (append_assoc (tape r.events) (tape f.applied) rest) ∙ ap (λ (x : List ℕ). x ++ rest) (sym (tape-append r.events f.applied));
        after_is = ap (λ (q : Progress). after_all q f.applied) r.after_is ∙ sym (after-append old r.events f.applied);
        written = output_all old r.events;
        wrote = r.wrote;
        output_is = output-append old r.events f.applied ∙ ap (λ (q : Progress). output_all old r.events ++ output_all q f.applied) (sym r.after_is);
      };
      cut = refl;
      lacks = line_no_feed f.bad known.entry;
      faults = f.faults;
      outputs = f.output_is;
    }

-- the number of events applied

-- the numbers of events
pub applied_count : (c d : Progress) (es : List Entry) (events : List Event) (i : ℕ) (output : List ℕ) → AreOf es events → AppliesAll c d (take i es) output → (d.events ≤ c.events + i) × (length es ≡ length events)
applied_count c d es events i output are h =
    let count : d.events ≡ c.events + length (take i es) = ap (λ (x : Progress). x.events) h.after_is ∙ events_counted c (take i es) in
    let size : length events ≡ length es = ap length are.events_are ∙ length-map es event_of in
    (omega (arith, length-take i es), sym size)

pub applies_few : (c d : Progress) (es : List Entry) (output : List ℕ) → AppliesAll c d es output → IsFew c → IsFew d
applies_few c d es output h few = subst IsFew (sym h.after_is) (few_all c es few)

-- all were applied
pub applies_whole : (c d : Progress) (es : List Entry) (events : List Event) (i : ℕ) (output : List ℕ) → AreOf es events → length events ≤ i → AppliesAll c d (take i es) output → AppliesAll c d es output
applies_whole c d es events i output are later h =
    let size : length events ≡ length es = ap length are.events_are ∙ length-map es event_of in
    subst (λ (l : List Entry). AppliesAll c d l output) (take_all i es (omega arith)) h

-- ---- the turns of a text

-- what is known of the counts
pub at_turn_counts : (c d : Progress) (text : List ℕ) (w v : Option (List ℕ)) (gathered : List ℕ) (now : List Event) (rest : List ℕ) → IsAtTurn c d text w v gathered now rest → IsFew c → (d.events + length now ≤ c.events + length text) × IsFew d
at_turn_counts c d text w v gathered now rest t few =
    let known = gathers_counts c d text w v gathered t.pending t.gathers few in
    let size : length now ≡ length t.ahead.entries = ap length t.ahead.are.events_are ∙ length-map t.ahead.entries event_of in
    let whole : length t.pending ≡ length (tape t.ahead.entries) + length rest = ap length t.ahead.text_is ∙ length-append (tape t.ahead.entries) rest in
    (omega (arith, known.0, length-tape t.ahead.entries), known.1)

-- lines that are read are no part of the rest
pub ahead_shorter : (text : List ℕ) (now : List Event) (rest : List ℕ) → IsAhead text now rest → length rest + length now ≤ length text
ahead_shorter text now rest h =
    let size : length now ≡ length h.entries = ap length h.are.events_are ∙ length-map h.entries event_of in
    let whole : length text ≡ length (tape h.entries) + length rest = ap length h.text_is ∙ length-append (tape h.entries) rest in
    omega (arith, length-tape h.entries)

-- every event that is read is applied
pub at_turn_last : (c d : Progress) (text : List ℕ) (w v : Option (List ℕ)) (gathered : List ℕ) (now : List Event) (rest : List ℕ) → IsAtTurn c d text w v gathered now rest → length now ≡ 0 → Gathers c d text w v gathered rest
at_turn_last c d text w v gathered now rest t none =
    let size : length now ≡ length t.ahead.entries = ap length t.ahead.are.events_are ∙ length-map t.ahead.entries event_of in
    let empty : t.ahead.entries ≡ [] = nil_from_length t.ahead.entries (omega arith) in
    subst (λ (x : List ℕ). Gathers c d text w v gathered x) (t.ahead.text_is ∙ ap (λ (l : List Entry). tape l ++ rest) empty) t.gathers

-- ---- one text after another

pub replays_on : (b c d : Progress) (text pending rest : List ℕ) (w v u : Option (List ℕ)) → Replays b c text w v pending → Replays c d pending v u rest → Replays b d text w u rest
replays_on b c d text pending rest w v u p q =
    subst (λ (x : List ℕ). Replays b d x w u rest) (append-nil text) (replays_then b c d text pending [] rest w v u p (subst (λ (x : List ℕ). Replays c d x v u rest) (sym (append-nil pending)) q))

pub stops_on : (b c : Progress) (text pending : List ℕ) (w v u : Option (List ℕ)) (e : TapeError) → Replays b c text w v pending → Stops ⊥ c pending v u e → Stops ⊥ b text w u e
stops_on b c text pending w v u e p q =
    subst (λ (x : List ℕ). Stops ⊥ b x w u e) (append-nil text) (stops_then ⊥ b c text pending [] w v u e p (subst (λ (x : List ℕ). Stops ⊥ c x v u e) (sym (append-nil pending)) q))
