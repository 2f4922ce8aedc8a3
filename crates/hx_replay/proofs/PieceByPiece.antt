-- A tape that is read piece by piece.
use Rattle.std.proofs.Common.{◌≡◌, ℕ, ◌+◌, ◌-◌, ◌≤◌, ◌<◌, List, [], ◌++◌, length, take, drop, map, Option, refl, sym, ap, ◌∙◌, subst, append_assoc, inl, inr, arith}
use Rattle.std.specs.Io.KnownBytes.{Appends, Keeps, Consumes, IsAtEnd}
use Rattle.std.proofs.KnownBytes.{Appends-nil, Appends-trans, Keeps-refl, Consumes-nil, Consumes-trans, Consumes-kept}
use Rattle.std.proofs.lemmas.List.{append-nil, length-append, nil_from_length}
use Rattle.std.proofs.Math.Seq.{drop-append_seam}
use Rattle.hx_replay.specs.declared.fault.TapeError.{TapeError}
use Rattle.hx_replay.specs.declared.fault.TapeError.TheVariants as fault
use Rattle.hx_tape_lines.specs.declared.fault.Kind.{Kind}
use Rattle.hx_tape_lines.specs.declared.fault.Kind.TheVariants as kinds
use Rattle.hx_members.specs.Setups.{Setup, IsSetup}
use Rattle.hx_units.specs.Cuts.{Lacks}
use Rattle.hx_tape_lines.specs.Text.{Entry, longest_line, tape}
use Rattle.hx_tape_lines.specs.Events.{event_of}
use Rattle.hx_replay.specs.Run.{Progress, after_all, output_all, start, counts_of, FailsAs, IsFew, AreEvents, Replays, Stops, EndsBy, BeginsBadly, IsFront}
use Rattle.hx_replay.specs.Whole.{ReplaysAll, StopsAt}
use Rattle.hx_replay.proofs.NoTrace.{no_trace, tells_nothing}
use Rattle.hx_replay.proofs.StruckTapes.{texts_tell_nothing}
use Rattle.hx_replay.proofs.Few.{few-start}
use Rattle.hx_replay.proofs.Runs.{tape-append, after-append, output-append, events-append, events_counted, replays_none, replays_counts, stops_at_rest}

pub record SoFar (setup : Setup) (r s w v : Option (List ℕ)) (counts : Progress) (pending : List ℕ) : Type 0 where
  pub is_setup : IsSetup setup
  pub text : List ℕ
  pub read : Consumes r s text
  pub applies : Replays (start setup) counts text w v pending
  pub no_feed : Lacks 10 pending
  pub fits : length pending ≤ longest_line

-- ---- joined replays

pub text_grown : (es fs : List Entry) (text pending piece rest : List ℕ) → text ≡ tape es ++ pending → pending ++ piece ≡ tape fs ++ rest → text ++ piece ≡ tape (es ++ fs) ++ rest
text_grown es fs text pending piece rest p q =
    ap (λ (x : List ℕ). x ++ piece) p ∙ append_assoc (tape es) pending piece ∙ ap (λ (x : List ℕ). tape es ++ x) q ∙ sym (append_assoc (tape es) (tape fs) rest) ∙ ap (λ (x : List ℕ). x ++ rest) (sym (tape-append es fs))

pub replays_then : (b c d : Progress) (text pending piece rest : List ℕ) (w v u : Option (List ℕ)) → Replays b c text w v pending → Replays c d (pending ++ piece) v u rest → Replays b d (text ++ piece) w u rest
replays_then b c d text pending piece rest w v u p q = record {
  events = p.events ++ q.events;
  are_events = events-append b p.events q.events p.are_events (subst (λ (x : Progress). AreEvents x q.events) p.after_is q.are_events);
  text_is = text_grown p.events q.events text pending piece rest p.text_is q.text_is;
  after_is = q.after_is ∙ ap (λ (x : Progress). after_all x q.events) p.after_is ∙ sym (after-append b p.events q.events);
  wrote =
      let same : output_all b p.events ++ output_all c q.events ≡ output_all b (p.events ++ q.events) = ap (λ (x : Progress). output_all b p.events ++ output_all x q.events) p.after_is ∙ sym (output-append b p.events q.events) in
      subst (Appends w u) same (Appends-trans w v u (output_all b p.events) (output_all c q.events) p.wrote q.wrote);
}

ends_then : (End : Type 0) (b c : Progress) (es fs : List Entry) (rest written : List ℕ) (e : TapeError) → c ≡ after_all b es → EndsBy ⊥ c fs rest written e → EndsBy End b (es ++ fs) rest (output_all b es ++ written) e
ends_then End b c es fs rest written e counts why =
    let same : output_all b es ++ output_all c fs ≡ output_all b (es ++ fs) = ap (λ (x : Progress). output_all b es ++ output_all x fs) counts ∙ sym (output-append b es fs) in
    let lines : c.events ≡ b.events + length es = ap (λ (x : Progress). x.events) counts ∙ events_counted b es in
    let whole : written ≡ output_all c fs → output_all b es ++ written ≡ output_all b (es ++ fs) = λ p. ap (λ (x : List ℕ). output_all b es ++ x) p ∙ same in
    let front : IsFront written (output_all c fs) → IsFront (output_all b es ++ written) (output_all b (es ++ fs)) =
    λ p. (p.0, sym same ∙ ap (λ (x : List ℕ). output_all b es ++ x) p.1 ∙ sym (append_assoc (output_all b es) written p.0)) in
    let run : after_all c fs ≡ after_all b (es ++ fs) = ap (λ (x : Progress). after_all x fs) counts ∙ sym (after-append b es fs) in
    let bad : (k : Kind) → BeginsBadly ⊥ (after_all c fs) k rest → BeginsBadly End (after_all b (es ++ fs)) k rest = λ k p. elim p [
      | inl line ↦ inl (line.0, line.1, line.2, line.3, subst (λ (x : Progress). FailsAs x k line.0) run line.4)
      | inr long ↦ inr (long.0, long.1, elim long.2 [ inl l ↦ inl l | inr never ↦ absurd never.1 ])
    ] in
    elim e as (λ x. EndsBy ⊥ c fs rest written x → EndsBy End b (es ++ fs) rest (output_all b es ++ written) x) [
      | fault.Line n k ↦ λ p. (whole p.0, omega (arith, p.1, length-append es fs), bad k p.2)
      | fault.NoMemory ↦ front
      | fault.Read ↦ λ p. (whole p.0, p.1)
      | fault.Write ↦ front
      | fault.Turns ↦ λ p. (whole p.0, p.1)
    ] why

pub stops_then : (End : Type 0) (b c : Progress) (text pending piece : List ℕ) (w v u : Option (List ℕ)) (e : TapeError) → Replays b c text w v pending → Stops ⊥ c (pending ++ piece) v u e → Stops End b (text ++ piece) w u e
stops_then End b c text pending piece w v u e p q = record {
  events = p.events ++ q.events;
  are_events = events-append b p.events q.events p.are_events (subst (λ (x : Progress). AreEvents x q.events) p.after_is q.are_events);
  rest = q.rest;
  text_is = text_grown p.events q.events text pending piece q.rest p.text_is q.text_is;
  written = output_all b p.events ++ q.written;
  wrote = Appends-trans w v u (output_all b p.events) q.written p.wrote q.wrote;
  why = ends_then End b c p.events q.events q.rest q.written e p.after_is q.why;
}

-- ---- the loop

pub so_far_none : (setup : Setup) (r w : Option (List ℕ)) → IsSetup setup → SoFar setup r r w w (start setup) []
so_far_none setup r w i = record { is_setup = i; text = []; read = Consumes-nil r; applies = replays_none (start setup) [] w; no_feed = λ k d below. absurd (omega arith); fits = omega arith }

-- the same over an equal setup
pub starts_so : (setup copied : Setup) (c : Progress) (pending : List ℕ) (r w : Option (List ℕ)) → copied ≡ setup → IsSetup setup → c ≡ start copied → pending ≡ [] → SoFar setup r r w w c pending
starts_so setup copied c pending r w copy i is none =
    let start_is : start setup ≡ c = ap start (sym copy) ∙ sym is in
    subst (λ (x : List ℕ). SoFar setup r r w w c x) (sym none) (subst (λ (x : Progress). SoFar setup r r w w x []) start_is (so_far_none setup r w i))

-- a piece more, of which this is pending
pub so_far_more : (setup : Setup) (r s s' w v u : Option (List ℕ)) (c c' : Progress) (pending piece pending' : List ℕ) → SoFar setup r s w v c pending → Consumes s s' piece
    → Replays c c' (pending ++ piece) v u pending' → Lacks 10 pending' → length pending' ≤ longest_line → SoFar setup r s' w u c' pending'
so_far_more setup r s s' w v u c c' pending piece pending' h took applies none fits = record {
  is_setup = h.is_setup;
  text = h.text ++ piece;
  read = Consumes-trans r s s' h.text piece h.read took;
  applies = replays_then (start setup) c c' h.text pending piece pending' w v u h.applies applies;
  no_feed = none;
  fits = fits;
}

-- how large the counts are
pub so_far_counts : (setup : Setup) (r s w v : Option (List ℕ)) (c : Progress) (pending : List ℕ) → SoFar setup r s w v c pending → IsFew c
unfolding start
so_far_counts setup r s w v c pending h = (replays_counts (start setup) c h.text w v pending h.applies (few-start setup h.is_setup)).1

pub stops_in_piece : (setup : Setup) (r s s' w v u : Option (List ℕ)) (c : Progress) (pending piece : List ℕ) (e : TapeError) → SoFar setup r s w v c pending → Consumes s s' piece → Stops ⊥ c (pending ++ piece) v u e → StopsAt setup e r s' w u
stops_in_piece setup r s s' w v u c pending piece e h took stops =
    let all : Stops (IsAtEnd s') (start setup) (h.text ++ piece) w u e = stops_then (IsAtEnd s') (start setup) c h.text pending piece w v u e h.applies stops in
    record {
      text = h.text ++ piece;
      read = Consumes-trans r s s' h.text piece h.read took;
      stops = all;
      no_trace = no_trace setup all.events;
      tells_nothing = tells_nothing setup (map event_of all.events);
      texts = texts_tell_nothing setup all.events all.are_events;
    }

-- the bytes after the last whole line are the last ones
pub rest_of : (c c' : Progress) (text : List ℕ) (v u : Option (List ℕ)) (rest : List ℕ) → Replays c c' text v u rest → drop (length text - length rest) text ≡ rest
rest_of c c' text v u rest h =
    let lines = tape h.events in
    let size : length text - length rest ≡ length lines = omega (arith, ap length h.text_is, length-append lines rest) in
    ap (λ k. drop k text) size ∙ ap (λ (l : List ℕ). drop (length lines) l) h.text_is ∙ drop-append_seam lines rest

-- the lines of a piece are applied, and this text is retained
pub so_far_applied : (setup : Setup) (r s s' w v u : Option (List ℕ)) (c c' : Progress) (pending piece text rest retained : List ℕ) → SoFar setup r s w v c pending → Consumes s s' piece → text ≡ pending ++ piece
    → Replays c c' text v u rest → Lacks 10 rest → length rest ≤ longest_line → retained ≡ drop (length text - length rest) text → SoFar setup r s' w u c' retained
so_far_applied setup r s s' w v u c c' pending piece text rest retained h took is applies none fits keeps =
    let same : retained ≡ rest = keeps ∙ rest_of c c' text v u rest applies in
    let applied : Replays c c' (pending ++ piece) v u rest = subst (λ (t : List ℕ). Replays c c' t v u rest) is applies in
    rw same (so_far_more setup r s s' w v u c c' pending piece rest h took applied none fits)

-- a line of a piece fails
pub stops_in_text : (setup : Setup) (r s s' w v u : Option (List ℕ)) (c : Progress) (pending piece text : List ℕ) (e : TapeError) → SoFar setup r s w v c pending → Consumes s s' piece → text ≡ pending ++ piece → Stops ⊥ c text v u e → StopsAt setup e r s' w u
stops_in_text setup r s s' w v u c pending piece text e h took is stops =
    stops_in_piece setup r s s' w v u c pending piece e h took (subst (λ (t : List ℕ). Stops ⊥ c t v u e) is stops)

-- more bytes than those of a line lack a line feed
pub stops_long : (setup : Setup) (r s s' w v u : Option (List ℕ)) (c c' : Progress) (pending piece text rest : List ℕ) → SoFar setup r s w v c pending → Consumes s s' piece → text ≡ pending ++ piece
    → Replays c c' text v u rest → Lacks 10 rest → longest_line < length rest → StopsAt setup (fault.Line (c'.events + 1) kinds.Bad) r s' w u
stops_long setup r s s' w v u c c' pending piece text rest h took is applies none long =
    stops_in_text setup r s s' w v u c pending piece text (fault.Line (c'.events + 1) kinds.Bad) h took is (stops_at_rest ⊥ c c' text v u rest applies none (inl long))

stops_between : (setup : Setup) (e : TapeError) (r s s' w v : Option (List ℕ)) (c : Progress) (pending : List ℕ) → ((events : List Entry) → EndsBy (IsAtEnd s') (start setup) events pending (output_all (start setup) events) e) → SoFar setup r s w v c pending
    → Keeps s s' → StopsAt setup e r s' w v
stops_between setup e r s s' w v c pending why h retained = record {
  text = h.text;
  read = Consumes-kept r s s' h.text h.read retained;
  stops = record { events = h.applies.events; are_events = h.applies.are_events; rest = pending; text_is = h.applies.text_is; written = output_all (start setup) h.applies.events; wrote = h.applies.wrote; why = why h.applies.events };
  no_trace = no_trace setup h.applies.events;
  tells_nothing = tells_nothing setup _;
  texts = texts_tell_nothing setup h.applies.events h.applies.are_events;
}

pub stops_in_read : (setup : Setup) (r s s' w v : Option (List ℕ)) (c : Progress) (pending : List ℕ) → SoFar setup r s w v c pending → Keeps s s' → StopsAt setup fault.Read r s' w v
stops_in_read setup r s s' w v c pending h retained = stops_between setup fault.Read r s s' w v c pending (λ _. (refl, h.no_feed)) h retained

pub stops_after_turns : (setup : Setup) (r s w v : Option (List ℕ)) (c : Progress) (pending : List ℕ) → SoFar setup r s w v c pending → StopsAt setup fault.Turns r s w v
stops_after_turns setup r s w v c pending h = stops_between setup fault.Turns r s s w v c pending (λ _. (refl, h.no_feed)) h (Keeps-refl s)

-- nothing is read, when out of memory
pub stops_at_start : (setup : Setup) (r w : Option (List ℕ)) → StopsAt setup fault.NoMemory r r w w
stops_at_start setup r w = record {
  text = [];
  read = Consumes-nil r;
  stops = record { events = []; are_events = tt; rest = []; text_is = refl; written = []; wrote = Appends-nil w; why = ([], refl) };
  no_trace = no_trace setup [];
  tells_nothing = tells_nothing setup _;
  texts = texts_tell_nothing setup [] tt;
}

-- ---- the end

pub read_on : (r s s' : Option (List ℕ)) (text : List ℕ) → Consumes r s text → Consumes s s' [] → Consumes r s' text
read_on r s s' text p q = subst (Consumes r s') (append-nil text) (Consumes-trans r s s' text [] p q)

pub ends_well : (setup : Setup) (r s s' w v : Option (List ℕ)) (c : Progress) (pending : List ℕ) → SoFar setup r s w v c pending → Consumes s s' [] → IsAtEnd s' → length pending ≡ 0 → ReplaysAll setup (counts_of c) r s' w v
ends_well setup r s s' w v c pending h took end empty =
    let whole : h.text ≡ tape h.applies.events = h.applies.text_is ∙ ap (λ (x : List ℕ). tape h.applies.events ++ x) (nil_from_length pending empty) ∙ append-nil (tape h.applies.events) in
    record {
      events = h.applies.events;
      are_events = h.applies.are_events;
      read = subst (Consumes r s') whole (read_on r s s' h.text h.read took);
      at_end = end;
      counts_are = ap counts_of h.applies.after_is;
      wrote = h.applies.wrote;
      no_trace = no_trace setup h.applies.events;
      tells_nothing = tells_nothing setup _;
      texts = texts_tell_nothing setup h.applies.events h.applies.are_events;
    }

pub ends_in_line : (setup : Setup) (r s s' w v : Option (List ℕ)) (c : Progress) (pending : List ℕ) → SoFar setup r s w v c pending → Consumes s s' [] → IsAtEnd s' → 0 < length pending → StopsAt setup (fault.Line (c.events + 1) kinds.Bad) r s' w v
ends_in_line setup r s s' w v c pending h took end some =
    let all : Stops (IsAtEnd s') (start setup) h.text w v (fault.Line (c.events + 1) kinds.Bad) = stops_at_rest (IsAtEnd s') (start setup) c h.text w v pending h.applies h.no_feed (inr (some, end)) in
    record {
      text = h.text;
      read = read_on r s s' h.text h.read took;
      stops = all;
      no_trace = no_trace setup all.events;
      tells_nothing = tells_nothing setup (map event_of all.events);
      texts = texts_tell_nothing setup all.events all.are_events;
    }

-- a read of nothing, into a buffer that was not full
pub at_end_after : (s s' : Option (List ℕ)) (n : ℕ) (buf : List ℕ) → n ≡ 0 → 0 < length buf → Consumes s s' (take n buf) × (n ≡ 0 → 0 < length buf → IsAtEnd s') → Consumes s s' [] × IsAtEnd s'
at_end_after s s' n buf none room h =
    let Took : ℕ → Type 0 = λ k. Consumes s s' (take k buf) in
    (subst Took none h.0, h.1 none room)
