-- Turns, once both threads have ended.
use Rattle.std.specs.Prelude.{IfErr}
use Rattle.std.proofs.Common.{◌≡◌, ℕ, ◌+◌, Result, Ok, Err, OnOk, OnErr, List, [], ◌∷◌, ◌++◌, length, Option, refl, sym, ap, ◌∙◌, subst, append_assoc, arith}
use Rattle.std.specs.Io.KnownBytes.{Appends}
use Rattle.std.proofs.KnownBytes.{Appends-nil, Appends-trans}
use Rattle.std.proofs.lemmas.List.{append-nil, length-map}
use Rattle.hx_rules.specs.declared.event.Event.{Event}
use Rattle.hx_replay.specs.declared.fault.TapeError.{TapeError}
use Rattle.hx_replay.specs.declared.fault.TapeError.TheVariants as fault
use Rattle.hx_replay_parallel.specs.declared.batch.Batch.{Batch}
use Rattle.hx_tape_lines.specs.Text.{Entry, tape}
use Rattle.hx_tape_lines.specs.Events.{event_of}
use Rattle.hx_units.specs.Writing.{Writes}
use Rattle.hx_replay.specs.Run.{Progress, output_all, Replays, Stops, IsFew}
use Rattle.hx_replay_parallel.specs.Ahead.{AreOf, IsAhead, AppliesAll, FailsAmong, IsAtTurn}
use Rattle.hx_replay.specs.Gathering.{IsUnwritten}
use Rattle.hx_replay_parallel.specs.Turns.{events_of, output_of, AppliesTurns, FailsInTurns}
use Rattle.hx_replay_parallel.proofs.TurnLists.{events_append, output_append, output_with, in_parts}
use Rattle.hx_replay.proofs.Runs.{tape-append, events_counted, stops_without_memory}
use Rattle.hx_replay.proofs.Gathering.{all_written, stops_gathering}
use Rattle.hx_replay_parallel.proofs.Turning.{AtFault, at_fault, applies_few, turned, at_turn_last}

-- ---- at a turn

-- the first of the events that are read, and the others
pub record AtFirst (c d : Progress) (all : List ℕ) (w v : Option (List ℕ)) (gathered : List ℕ) (now next : List Event) (rest : List ℕ) : Type 0 where
  pub text : List ℕ
  pub turn : IsAtTurn c d all w v gathered now text
  pub ahead : IsAhead text next rest

pub at_first : (c d : Progress) (all : List ℕ) (w v : Option (List ℕ)) (gathered : List ℕ) (now next : List Event) (rest : List ℕ) → IsAtTurn c d all w v gathered (now ++ next) rest → AtFirst c d all w v gathered now next rest
at_first c d all w v gathered now next rest t =
    let p = in_parts t.ahead.entries now next t.ahead.are.are_known t.ahead.are.events_are in
    let text = tape p.back ++ rest in
    record {
      text = text;
      turn = record {
        pending = t.pending;
        gathers = t.gathers;
        ahead = record {
          entries = p.front;
          are = p.front_are;
          text_is = t.ahead.text_is ∙ ap (λ (l : List Entry). tape l ++ rest) p.joined ∙ ap (λ (x : List ℕ). x ++ rest) (tape-append p.front p.back) ∙ append_assoc (tape p.front) (tape p.back) rest;
        };
      };
      ahead = record { entries = p.back; are = p.back_are; text_is = refl };
    }

-- what is gathered is written
pub turn_written : (c d : Progress) (all : List ℕ) (w v u : Option (List ℕ)) (gathered : List ℕ) (now : List Event) (rest : List ℕ) → IsAtTurn c d all w v gathered now rest → Appends v u gathered → IsAtTurn c d all w u [] now rest
turn_written c d all w v u gathered now rest t wrote =
    let r : Replays c d all w u t.pending = all_written c d all w v u gathered t.pending t.gathers wrote in
    record {
      pending = t.pending;
      gathers = record { events = r.events; are_events = r.are_events; text_is = r.text_is; after_is = r.after_is; written = output_all c r.events; wrote = r.wrote; output_is = sym (append-nil (output_all c r.events)) };
      ahead = t.ahead;
    }

-- the first events are applied, and their output is written
pub now_applied : (c d d' : Progress) (all : List ℕ) (w v u : Option (List ℕ)) (telling : List ℕ) (now next : List Event) (rest : List ℕ) → IsAtTurn c d all w v [] (now ++ next) rest
    → ((es : List Entry) → AreOf es now → AppliesAll d d' es telling) → Appends v u telling → IsAtTurn c d' all w u [] next rest
now_applied c d d' all w v u telling now next rest t applied wrote =
    let f = at_first c d all w v [] now next rest t in
    turn_written c d' all w v u telling next rest (turned c d d' all w v v [] telling f.text now next rest f.turn (Appends-nil v) applied f.ahead) wrote

-- they are applied, and not all of their output is written
pub now_unwritten : (c d d' : Progress) (all : List ℕ) (w v u : Option (List ℕ)) (telling : List ℕ) (now next : List Event) (rest : List ℕ) (e : TapeError) → IsAtTurn c d all w v [] (now ++ next) rest
    → ((es : List Entry) → AreOf es now → AppliesAll d d' es telling) → ((left : List ℕ) × Writes v u telling left) → IsUnwritten e → Stops ⊥ c all w u e
now_unwritten c d d' all w v u telling now next rest e t applied some is =
    let f = at_first c d all w v [] now next rest t in
    let g = turned c d d' all w v v [] telling f.text now next rest f.turn (Appends-nil v) applied f.ahead in
    stops_gathering c d' all w v u telling g.pending e g.gathers some is

-- one of them fails
pub now_fails : (c d : Progress) (all : List ℕ) (w v : Option (List ℕ)) (telling : List ℕ) (now next : List Event) (rest : List ℕ) (e : TapeError) → IsAtTurn c d all w v [] (now ++ next) rest
    → ((es : List Entry) → AreOf es now → FailsAmong d es telling e) → AtFault c all w v telling e
now_fails c d all w v telling now next rest e t failed =
    let f = at_first c d all w v [] now next rest t in
    at_fault c d all w v v [] telling f.text now e f.turn (Appends-nil v) failed

-- nothing more is applied, when out of memory
pub stops_at_turn : (c d : Progress) (all : List ℕ) (w v : Option (List ℕ)) (now : List Event) (rest : List ℕ) → IsAtTurn c d all w v [] now rest → Stops ⊥ c all w v fault.NoMemory
stops_at_turn c d all w v now rest t = stops_without_memory c d all w v t.pending (all_written c d all w v v [] t.pending t.gathers (Appends-nil v))

-- ---- both threads have ended

-- turns are applied, all but some of their output is written, and others are read
pub gathers_turns : (c d : Progress) (all : List ℕ) (w : Option (List ℕ)) (applied outputs : List Batch) (next : List Event) (rest : List ℕ) → IsAhead all (events_of applied ++ next) rest → AppliesTurns c d applied outputs
    → IsAtTurn c d all w w (output_of outputs) next rest
gathers_turns c d all w applied outputs next rest ahead applies =
    let p = in_parts ahead.entries (events_of applied) next ahead.are.are_known ahead.are.events_are in
    let h : AppliesAll c d p.front (output_of outputs) = applies p.front p.front_are in
    let text = tape p.back ++ rest in
    record {
      pending = text;
      gathers = record {
        events = p.front;
        are_events = h.are_events;
        text_is = ahead.text_is ∙ ap (λ (l : List Entry). tape l ++ rest) p.joined ∙ ap (λ (x : List ℕ). x ++ rest) (tape-append p.front p.back) ∙ append_assoc (tape p.front) (tape p.back) rest;
        after_is = h.after_is;
        written = [];
        wrote = Appends-nil w;
        output_is = sym h.output_is;
      };
      ahead = record { entries = p.back; are = p.back_are; text_is = refl };
    }

-- the turns that are known to be applied, however the thread that applies them ended
pub record AppliesSome (c : Progress) (applied outputs : List Batch) : Type 0 where
  pub at : Progress
  pub before : List Batch
  pub later : List Batch
  pub applied_are : applied ≡ before ++ later
  pub applies : AppliesTurns c at before outputs

pub applies_some : (r : Result (Unit {0}) TapeError) (c d : Progress) (applied outputs : List Batch) (output : List ℕ) → OnOk r (AppliesTurns c d applied outputs) → IfErr r (FailsInTurns c applied outputs output) → AppliesSome c applied outputs
applies_some (Ok x) c d applied outputs output ok err = record { at = d; before = applied; later = []; applied_are = sym (append-nil applied); applies = ok }
applies_some (Err e) c d applied outputs output ok err = record { at = err.at; before = err.before; later = err.last ∷ []; applied_are = err.applied_are; applies = err.applies }

-- not all of the output is written
pub stops_writing : (c : Progress) (text : List ℕ) (sent applied left outputs : List Batch) (rest : List ℕ) (w v : Option (List ℕ)) (e : TapeError) → IsAhead text (events_of sent) rest → applied ++ left ≡ sent → AppliesSome c applied outputs
    → ((unwritten : List ℕ) × Writes w v (output_of outputs) unwritten) → IsUnwritten e → Stops ⊥ c text w v e
stops_writing c text sent applied left outputs rest w v e h all some wrote is =
    let from : sent ≡ some.before ++ (some.later ++ left) = sym all ∙ ap (λ (l : List Batch). l ++ left) some.applied_are ∙ append_assoc some.before some.later left in
    let ahead : IsAhead text (events_of some.before ++ events_of (some.later ++ left)) rest = subst (λ (l : List Event). IsAhead text l rest) (ap events_of from ∙ events_append some.before (some.later ++ left)) h in
    let t = gathers_turns c some.at text w some.before outputs (events_of (some.later ++ left)) rest ahead some.applies in
    stops_gathering c some.at text w w v (output_of outputs) t.pending e t.gathers wrote is

-- the output of one more turn is written
pub written_one : (w v u : Option (List ℕ)) (turns : List Batch) (t : Batch) → Appends w v (output_of turns) → Appends v u t.outputs → Appends w u (output_of (turns ++ t ∷ []))
written_one w v u turns t wrote outputs = subst (Appends w u) (sym (output_with turns t)) (Appends-trans w v u (output_of turns) t.outputs wrote outputs)

-- a front of it is written
pub written_in_one : (w v u : Option (List ℕ)) (turns : List Batch) (t : Batch) (rest : List ℕ) → Appends w v (output_of turns) → Writes v u t.outputs rest → (rest : List ℕ) × Writes w u (output_of (turns ++ t ∷ [])) rest
written_in_one w v u turns t rest wrote some = (
  rest,
  record {
    front = output_of turns ++ some.front;
    bytes_are = output_with turns t ∙ ap (λ (l : List ℕ). output_of turns ++ l) some.bytes_are ∙ sym (append_assoc (output_of turns) some.front rest);
    wrote = Appends-trans w v u (output_of turns) some.front wrote some.wrote;
  },
)

-- more than was written is left
pub writes_longer : (w v : Option (List ℕ)) (all written left : List Batch) → written ++ left ≡ all → ((rest : List ℕ) × Writes w v (output_of written) rest) → (rest : List ℕ) × Writes w v (output_of all) rest
writes_longer w v all written left is h = (
  h.0 ++ output_of left,
  record {
    front = h.1.front;
    bytes_are = sym (ap output_of is) ∙ output_append written left ∙ ap (λ (x : List ℕ). x ++ output_of left) h.1.bytes_are ∙ append_assoc h.1.front h.0 (output_of left);
    wrote = h.1.wrote;
  },
)

-- what was written before, and a front of what was left then
pub writes_after : (w v u : Option (List ℕ)) (all written left : List Batch) → written ++ left ≡ all → Appends w v (output_of written) → ((rest : List ℕ) × Writes v u (output_of left) rest) → (rest : List ℕ) × Writes w u (output_of all) rest
writes_after w v u all written left is wrote h = (
  h.0,
  record {
    front = output_of written ++ h.1.front;
    bytes_are = sym (ap output_of is) ∙ output_append written left ∙ ap (λ (x : List ℕ). output_of written ++ x) h.1.bytes_are ∙ sym (append_assoc (output_of written) h.1.front h.0);
    wrote = Appends-trans w v u (output_of written) h.1.front wrote h.1.wrote;
  },
)

-- all of the output is written
pub written_all : (w v u : Option (List ℕ)) (all written left : List Batch) → written ++ left ≡ all → Appends w v (output_of written) → Appends v u (output_of left) → Appends w u (output_of all)
written_all w v u all written left is first second =
    subst (Appends w u) (sym (output_append written left) ∙ ap output_of is) (Appends-trans w v u (output_of written) (output_of left) first second)

-- then one of the lines that were read failed
pub fails_then : (c : Progress) (text : List ℕ) (sent applied left outputs : List Batch) (rest : List ℕ) (w u : Option (List ℕ)) (telling : List ℕ) (e : TapeError) → IsAhead text (events_of sent) rest → applied ++ left ≡ sent → FailsInTurns c applied outputs telling e
    → Appends w u (output_of outputs) → AtFault c text w u telling e
fails_then c text sent applied left outputs rest w u telling e h all f wrote =
    let from : sent ≡ f.before ++ (f.last ∷ left) = sym all ∙ ap (λ (l : List Batch). l ++ left) f.applied_are ∙ append_assoc f.before (f.last ∷ []) left in
    let ahead : IsAhead text (events_of f.before ++ events_of (f.last ∷ left)) rest = subst (λ (l : List Event). IsAhead text l rest) (ap events_of from ∙ events_append f.before (f.last ∷ left)) h in
    let t = gathers_turns c f.at text w f.before outputs (events_of (f.last ∷ left)) rest ahead f.applies in
    let t' = turn_written c f.at text w w u (output_of outputs) (events_of (f.last ∷ left)) rest t wrote in
    now_fails c f.at text w u telling f.last.ahead (events_of left) rest e t' f.fails

-- then the others of those that were read are ahead
pub rests_then : (c d : Progress) (text : List ℕ) (sent applied left outputs : List Batch) (rest : List ℕ) (w u : Option (List ℕ)) → IsAhead text (events_of sent) rest → applied ++ left ≡ sent → AppliesTurns c d applied outputs
    → Appends w u (output_of outputs) → IsAtTurn c d text w u [] (events_of left) rest
rests_then c d text sent applied left outputs rest w u h all applies wrote =
    let ahead : IsAhead text (events_of applied ++ events_of left) rest = subst (λ (l : List Event). IsAhead text l rest) (sym (ap events_of all) ∙ events_append applied left) h in
    turn_written c d text w w u (output_of outputs) (events_of left) rest (gathers_turns c d text w applied outputs (events_of left) rest ahead applies) wrote

-- all are applied, and all is written
pub applies_last : (c d : Progress) (text : List ℕ) (w u : Option (List ℕ)) (rest : List ℕ) → IsAtTurn c d text w u [] [] rest → Replays c d text w u rest
applies_last c d text w u rest t = all_written c d text w u u [] rest (at_turn_last c d text w u [] [] rest t refl) (Appends-nil u)

-- the lines that are applied at once

-- what is known of the counts then
pub now_counts : (c d : Progress) (es : List Entry) (events : List Event) (output : List ℕ) → AreOf es events → AppliesAll c d es output → IsFew c → (d.events ≡ c.events + length events) × IsFew d
now_counts c d es events output are h few =
    let count : d.events ≡ c.events + length es = ap (λ (x : Progress). x.events) h.after_is ∙ events_counted c es in
    let size : length events ≡ length es = ap length are.events_are ∙ length-map es event_of in
    (omega (arith, count, size), applies_few c d es output h few)

-- however the writing ended
pub now_unwritten_if : (r : Result (Unit {0}) TapeError) (d d' : Progress) (v u : Option (List ℕ)) (telling : List ℕ) (now : List Event) → ((es : List Entry) → AreOf es now → AppliesAll d d' es telling)
    → OnErr r ((left : List ℕ) × Writes v u telling left) → IfErr r IsUnwritten
    → IfErr r (λ e. (old : Progress) (all text : List ℕ) (w : Option (List ℕ)) (next : List Event) → IsAtTurn old d all w v [] (now ++ next) text → Stops ⊥ old all w u e)
now_unwritten_if (Ok x) d d' v u telling now applied some is = tt
now_unwritten_if (Err e) d d' v u telling now applied some is = λ old all text w next t. now_unwritten old d d' all w v u telling now next text e t applied some is

-- the first of those that are left is taken
pub one_less : (all written left : List Batch) (turn : Batch) (others : List Batch) → left ≡ turn ∷ others → written ++ left ≡ all → (written ++ turn ∷ []) ++ others ≡ all
one_less all written left turn others is later = append_assoc written (turn ∷ []) others ∙ ap (λ (l : List Batch). written ++ l) (sym is) ∙ later

-- the events of the first one, and those of the others
pub first_events : (left : List Batch) (turn : Batch) (others : List Batch) → left ≡ turn ∷ others → events_of left ≡ turn.ahead ++ events_of others
first_events left turn others is = ap events_of is

-- what came through a ring and what is left in it are what was sent, since one thread has both ends
pub all_sent : (came came' left sent sent' : List Batch) → came' ≡ came → sent' ≡ sent → came' ++ left ≡ sent' → came ++ left ≡ sent
all_sent came came' left sent sent' first second is = ap (λ (l : List Batch). l ++ left) (sym first) ∙ is ∙ second
