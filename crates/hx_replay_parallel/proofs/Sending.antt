-- Turns that come with output and are sent on with the next lines.
use Rattle.std.proofs.Common.{◌≡◌, ℕ, ◌^◌, ◌≤◌, ◌<◌, Bool, false, true≢false, ◌↔◌, IsTrue, List, [], ◌∷◌, ◌++◌, length, Option, Result, Ok, Err, OnOk, OnErr, refl, sym, ap, ◌∙◌, subst, append_assoc, arith}
use Rattle.std.proofs.KnownBytes.{Appends-nil}
use Rattle.std.proofs.lemmas.List.{append-nil, length-append, nil_from_length}
use Rattle.hx_rules.specs.declared.event.Event.{Event}
use Rattle.hx_replay_parallel.specs.declared.batch.Batch.{Batch}
use Rattle.hx_units.specs.Writing.{Writes}
use Rattle.hx_replay_parallel.specs.Ahead.{IsAhead, TakesLines}
use Rattle.hx_replay_parallel.specs.Turns.{events_of, output_of, MayFollow}
use Rattle.hx_replay_parallel.proofs.TurnLists.{events_with, output_with}
use Rattle.hx_replay.proofs.Spelled.{writes_then}
use Rattle.hx_replay_parallel.proofs.Reading.{ahead_none, ahead_then}
use Rattle.hx_replay_parallel.proofs.Turning.{ahead_shorter}

-- ---- one turn more

-- one without lines
pub events_same : (turns more : List Batch) (t : Batch) → more ≡ turns ++ t ∷ [] → t.ahead ≡ [] → events_of more ≡ events_of turns
events_same turns more t is none =
    ap (λ (l : List Batch). events_of l) is ∙ events_with turns t ∙ ap (λ (l : List Event). events_of turns ++ l) none ∙ append-nil (events_of turns)

-- ---- what is written, but for what is spelled and waits

pub writes_first : (w : Option (List ℕ)) (turns : List Batch) (spelled : List ℕ) → turns ≡ [] → spelled ≡ [] → Writes w w (output_of turns) spelled
writes_first w turns spelled none empty = record { front = []; bytes_are = ap (λ (l : List Batch). output_of l) none ∙ sym empty; wrote = Appends-nil w }

-- no turn comes
pub writes_same : (w v : Option (List ℕ)) (turns more : List Batch) (spelled : List ℕ) → more ≡ turns → Writes w v (output_of turns) spelled → Writes w v (output_of more) spelled
writes_same w v turns more spelled is wrote = subst (λ (l : List Batch). Writes w v (output_of l) spelled) (sym is) wrote

-- another turn's output is spelled after it, and some of both is written
pub writes_turn : (w v u : Option (List ℕ)) (turns more : List Batch) (t : Batch) (spelled rest : List ℕ) → more ≡ turns ++ t ∷ [] → Writes w v (output_of turns) spelled → Writes v u (spelled ++ t.outputs) rest → Writes w u (output_of more) rest
writes_turn w v u turns more t spelled rest is wrote outputs =
    let same : output_of more ≡ output_of turns ++ t.outputs = ap (λ (l : List Batch). output_of l) is ∙ output_with turns t in
    let both : Writes w v (output_of turns ++ t.outputs) (spelled ++ t.outputs) = record {
      front = wrote.front;
      bytes_are = ap (λ (l : List ℕ). l ++ t.outputs) wrote.bytes_are ∙ append_assoc wrote.front spelled t.outputs;
      wrote = wrote.wrote;
    } in
    subst (λ (l : List ℕ). Writes w u l rest) (sym same) (writes_then w v u (output_of turns ++ t.outputs) (spelled ++ t.outputs) rest both outputs)

-- ---- what is read

pub sent_first : (text : List ℕ) (turns : List Batch) → turns ≡ [] → IsAhead text (events_of turns) text
sent_first text turns none = subst (λ (l : List Batch). IsAhead text (events_of l) text) (sym none) (ahead_none text)

-- no turn is sent
pub sent_same : (text : List ℕ) (turns more : List Batch) (rest : List ℕ) → more ≡ turns → IsAhead text (events_of turns) rest → IsAhead text (events_of more) rest
sent_same text turns more rest is h = subst (λ (l : List Batch). IsAhead text (events_of l) rest) (sym is) h

-- the rest is the lines of more events, and a rest
pub ahead_on : (text : List ℕ) (old new : List Event) (rest rest' : List ℕ) → IsAhead text old rest → IsAhead rest new rest' → IsAhead text (old ++ new) rest'
ahead_on text old new rest rest' h k =
    let takes : TakesLines rest old (old ++ new) rest' = record { events = new; new_is = refl; ahead = k } in
    ahead_then text rest old (old ++ new) rest' h takes

-- a turn is sent with the next lines
pub sent_turn : (text : List ℕ) (turns more : List Batch) (turn : Batch) (rest rest' : List ℕ) → more ≡ turns ++ turn ∷ [] → IsAhead text (events_of turns) rest → IsAhead rest turn.ahead rest' → IsAhead text (events_of more) rest'
sent_turn text turns more turn rest rest' is h k =
    let same : events_of turns ++ turn.ahead ≡ events_of more = sym (events_with turns turn) ∙ ap (λ (l : List Batch). events_of l) (sym is) in
    subst (λ (l : List Event). IsAhead text l rest') same (ahead_on text (events_of turns) turn.ahead rest rest' h k)

-- there are no more lines
pub sent_all : (text : List ℕ) (old new : List Event) (rest rest' : List ℕ) → length new ≡ 0 → IsAhead text old rest → IsAhead rest new rest' → IsAhead text old rest'
sent_all text old new rest rest' none h k =
    let same : old ++ new ≡ old = ap (λ (l : List Event). old ++ l) (nil_from_length new none) ∙ append-nil old in
    subst (λ (l : List Event). IsAhead text l rest') same (ahead_on text old new rest rest' h k)

-- ---- how many are sent

pub ahead_few : (text : List ℕ) (events : List Event) (rest : List ℕ) → length text ≤ 16777216 → IsAhead text events rest → length events ≤ 2 ^ 45
ahead_few text events rest fits h = omega (arith, fits, ahead_shorter text events rest h)

-- however the sending ended
pub sent_few : {A E : Type 0} (result : Result A E) (text : List ℕ) (events : List Event) (rest : List ℕ) → length text ≤ 16777216 → OnOk result (IsAhead text events rest)
    → OnErr result ((x : List ℕ) × IsAhead text events x) → length events ≤ 2 ^ 45
sent_few {A} {E} result text events rest fits ok err =
    elim result as (λ (x : Result A E). OnOk x (IsAhead text events rest) → OnErr x ((y : List ℕ) × IsAhead text events y) → length events ≤ 2 ^ 45) [
      | Ok x ↦ (λ a b. ahead_few text events rest fits a)
      | Err e ↦ (λ a b. ahead_few text events b.0 fits b.1)
    ] ok err

pub may_follow : (text : List ℕ) (turns : List Batch) (turn : Batch) (rest rest' : List ℕ) → length text ≤ 16777216 → IsAhead text (events_of turns) rest → IsAhead rest turn.ahead rest' → MayFollow turns turn
may_follow text turns turn rest rest' fits h k =
    let all = ahead_on text (events_of turns) turn.ahead rest rest' h k in
    record {
      entries = k.entries;
      are = k.are;
      few = omega (arith, ahead_few text (events_of turns ++ turn.ahead) rest' fits all, length-append (events_of turns) turn.ahead);
    }

-- a turn without lines may always follow
pub may_follow_last : (turns : List Batch) (turn : Batch) → turn.ahead ≡ [] → length (events_of turns) ≤ 2 ^ 45 → MayFollow turns turn
may_follow_last turns turn none few = record { entries = []; are = record { are_known = tt; events_are = none }; few = omega (arith, few, ap length none) }

-- a ring that is not full
pub has_room : (full : Bool) (free : ℕ) → (IsTrue full ↔ (free ≡ 0)) → full ≡ false → 0 < free
has_room full free is off = let never : ¬ (free ≡ 0) = λ none. true≢false (sym (is.1 none) ∙ off) in omega arith
