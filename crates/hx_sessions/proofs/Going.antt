-- How a delivery goes on.
use Rattle.std.proofs.Common.{◌≡◌, ℕ, zero, suc, ◌+◌, ◌-◌, ◌<◌, ◌≤◌, List, [], ◌∷◌, ◌++◌, length, take, drop, Bool, true, false, Option, Some, Result, Ok, Err, refl, sym, ap, ◌∙◌, subst, inl, inr, arith, append_assoc, append-nil, length-append, take-append-drop, length-drop, length-take}
use Rattle.std.specs.Prelude.{MatchBool, IfErr, OnOk}
use Rattle.std.specs.List.{concat}
use Rattle.std.specs.Io.KnownBytes.{Appends}
use Rattle.std.proofs.KnownBytes.{Appends-nil, Appends-trans}
use Rattle.std.proofs.lemmas.List.Folds.{concat-append}
use Rattle.std.proofs.Math.Seq.{drop-append_seam}
use mathlib.Core.List.{IsPrefix}
use Rattle.arrayvec.specs.ArrayVec.{ArrayVec}
use Rattle.hx_sessions.specs.declared.delivery.Turn.TheVariants as turn
use Rattle.hx_units.specs.Fields.{texts}
use Rattle.hx_units.proofs.Prefixes.{prefix_length}
use Rattle.hx_sessions.specs.Deliveries.{Delivery, TurnGives, Goes}
use Rattle.std.proofs.lemmas.List.{take_all, drop-drop, drop_all}
use Rattle.hx_blog.specs.Feed.{Entries}
use Rattle.hx_desk.specs.declared.entry.Entry.{Entry}
use Rattle.hx_desk.specs.Known.{known_replies}
use Rattle.hx_desk.proofs.Growth.{replies_grow}
use Rattle.hx_members.specs.Setups.{Setup}
use Rattle.hx_sessions.specs.declared.ending.Stop.{Stop}
use Rattle.hx_sessions.specs.declared.ending.Stop.TheVariants as stop
use Rattle.hx_sessions.specs.Workers.{SendsMore, StopsIn, SentUntil}
use Rattle.hx_sessions.specs.declared.ending.Fault.TheVariants as fault
use Rattle.hx_units.specs.Writing.{Writes}
use Rattle.hx_sessions.specs.Frames.{day_over, WritesAll, WritesSome, AreFrames, Sends, Delivers, Sent, SentSome}

drop_one : (all : List (List ℕ)) (i : ℕ) → drop 1 (drop i all) ≡ drop (i + 1) all
drop_one all i = drop-drop 1 i all ∙ ap (λ n. drop n all) (omega arith)

-- ---- one turn

goes_sends : (old new : Delivery) (rows : List (List ℕ)) (ended : Bool) (now : ℕ) (frame : ArrayVec ℕ) → Goes old new rows ended now (turn.Frame frame) → Sends old new rows ended (frame.items ∷ [])
goes_sends old new (row ∷ rows) ended now frame g = (ap (λ x. x ∷ []) g.is_frame, ap (λ d. d.next) g.is, ap (λ d. d.over) g.is)
goes_sends old new [] true now frame g = (ap (λ x. x ∷ []) g.is_frame, ap (λ d. d.next) g.is, ap (λ d. d.over) g.is)
goes_sends old new [] false now frame (inl h) = (inl (ap (λ x. x ∷ []) h.is_frame), ap (λ d. d.next) h.is, ap (λ d. d.over) h.is)
goes_sends old new [] false now frame (inr n) = absurd (cc (n.is_idle))

pub turn_sends : (old new : Delivery) (rows : List (List ℕ)) (ended : Bool) (now : ℕ) (frame : ArrayVec ℕ) → old.over ≡ false → TurnGives old new rows ended now (turn.Frame frame) → Sends old new rows ended (frame.items ∷ [])
turn_sends old new rows ended now frame live g =
    goes_sends old new rows ended now frame (subst (λ b. MatchBool b ((turn.Frame frame ≡ turn.Over) × (new ≡ old)) (Goes old new rows ended now (turn.Frame frame))) live g)

pub one_frame : (bytes : List ℕ) → concat (bytes ∷ []) ≡ bytes
one_frame bytes = append-nil bytes

-- ---- frames

frames-append : (rows more : List (List ℕ)) (over : Bool) (fs gs : List (List ℕ)) → AreFrames rows false fs → AreFrames more over gs → AreFrames (rows ++ more) over (fs ++ gs)
frames-append rows more over [] gs (none, e) b = subst (λ l. AreFrames (l ++ more) over gs) (sym none) b
frames-append rows more over (f ∷ fs) gs (inl (e, a)) b = inl (e, frames-append rows more over fs gs a b)
frames-append rows more over (f ∷ fs) gs (inr (inl (row, others, is, e, a))) b = inr (inl (row, others ++ more, ap (λ l. l ++ more) is, e, frames-append others more over fs gs a b))
frames-append rows more over (f ∷ fs) gs (inr (inr (e, none, over_is, last))) b = absurd (cc over_is)

sends_frames : (old new : Delivery) (rows : List (List ℕ)) (ended : Bool) (frames : List (List ℕ)) → Sends old new rows ended frames → AreFrames (take 1 rows) new.over frames
sends_frames old new (row ∷ rows) ended frames (is, next, over) = subst (AreFrames (row ∷ []) new.over) (sym is) (inr (inl (row, [], refl, refl, (refl, over))))
sends_frames old new [] true frames (is, next, over) = subst (AreFrames [] new.over) (sym is) (inr (inr (refl, refl, over, refl)))
sends_frames old new [] false frames (inl is, next, over) = subst (AreFrames [] new.over) (sym is) (inl (refl, (refl, over)))
sends_frames old new [] false frames (inr is, next, over) = subst (AreFrames [] new.over) (sym is) (refl, over)

sends_next : (old new : Delivery) (rows : List (List ℕ)) (ended : Bool) (frames : List (List ℕ)) → Sends old new rows ended frames → new.next ≡ old.next + length (take 1 rows)
sends_next old new (row ∷ rows) ended frames (is, next, over) = next
sends_next old new [] true frames (is, next, over) = omega (arith, next)
sends_next old new [] false frames (is, next, over) = omega (arith, next)

-- when the end of the session goes out, no reply is left
sends_ends : (old new : Delivery) (rows : List (List ℕ)) (ended : Bool) (frames : List (List ℕ)) → Sends old new rows ended frames → new.over ≡ true → drop 1 rows ≡ []
sends_ends old new (row ∷ rows) ended frames (is, next, over) e = absurd (cc (over, e))
sends_ends old new [] ended frames s e = refl

-- the end of the session goes out only if the day has ended
pub sends_over : (old new : Delivery) (rows : List (List ℕ)) (ended : Bool) (frames : List (List ℕ)) → Sends old new rows ended frames → new.over ≡ true → ended ≡ true
sends_over old new (row ∷ rows) ended frames (is, next, over) e = absurd (cc (over, e))
sends_over old new [] true frames s e = refl
sends_over old new [] false frames (is, next, over) e = absurd (cc (over, e))

pub sends_open : (old new : Delivery) (rows : List (List ℕ)) (frames : List (List ℕ)) → Sends old new rows false frames → new.over ≡ false
sends_open old new (row ∷ rows) frames (is, next, over) = over
sends_open old new [] frames (is, next, over) = over

pub delivers_more : (first : ℕ) (replies rest : List (List ℕ)) (old new : Delivery) (ended : Bool) (fs gs : List (List ℕ)) → Delivers first replies rest old fs → old.over ≡ false → Sends old new rest ended gs
    → Delivers first replies (drop 1 rest) new (fs ++ gs)
delivers_more first replies rest old new ended fs gs d live s = record {
  before = d.before;
  rows = d.rows ++ take 1 rest;
  splits = d.splits ∙ ap (λ l. d.before ++ l) (ap (λ l. d.rows ++ l) (sym (take-append-drop 1 rest)) ∙ sym (append_assoc d.rows (take 1 rest) (drop 1 rest)));
  starts = d.starts;
  next = omega (arith, d.next, sends_next old new rest ended gs s, length-append d.rows (take 1 rest));
  are = frames-append d.rows (take 1 rest) new.over fs gs (subst (λ b. AreFrames d.rows b fs) live d.are) (sends_frames old new rest ended gs s);
  ends = sends_ends old new rest ended gs s;
}

-- ---- frames that were written

pub sent_more : (first : ℕ) (replies rest : List (List ℕ)) (old new : Delivery) (ended : Bool) (gs : List (List ℕ)) (a b c : Option (List ℕ)) → Sent first replies rest old a b → old.over ≡ false → Sends old new rest ended gs → WritesAll b c gs
    → Sent first replies (drop 1 rest) new a c
sent_more first replies rest old new ended gs a b c s live sends w = record {
  frames = s.frames ++ gs;
  delivers = delivers_more first replies rest old new ended s.frames gs s.delivers live sends;
  wrote = subst (Appends a c) (sym (concat-append s.frames gs)) (Appends-trans a b c (concat s.frames) (concat gs) s.wrote w);
}

pub sent_some : (first : ℕ) (replies rest : List (List ℕ)) (old new : Delivery) (ended : Bool) (gs : List (List ℕ)) (a b c : Option (List ℕ)) → Sent first replies rest old a b → old.over ≡ false → Sends old new rest ended gs → WritesSome b c gs
    → SentSome first replies (drop 1 rest) new a c
sent_some first replies rest old new ended gs a b c s live sends (left, w) = record {
  frames = s.frames ++ gs;
  delivers = delivers_more first replies rest old new ended s.frames gs s.delivers live sends;
  wrote = (
    left,
    record {
      front = concat s.frames ++ w.front;
      bytes_are = concat-append s.frames gs ∙ (ap (λ l. concat s.frames ++ l) w.bytes_are ∙ sym (append_assoc (concat s.frames) w.front left));
      wrote = Appends-trans a b c (concat s.frames) w.front s.wrote w.wrote;
    },
  );
}

pub sent_room : (first : ℕ) (replies rest : List (List ℕ)) (d : Delivery) (a b : Option (List ℕ)) → Sent first replies rest d a b → d.next + length rest ≡ length replies + 1
sent_room first replies rest d a b s =
    let v = s.delivers in
    omega (arith, v.next, v.starts, ap length v.splits, length-append v.before (v.rows ++ rest), length-append v.rows rest)

-- nothing has gone out yet
pub sent_none : (first : ℕ) (replies : List (List ℕ)) (d : Delivery) (a : Option (List ℕ)) → d.next ≡ first → d.over ≡ false → 1 ≤ first → first ≤ length replies + 1 → Sent first replies (drop (first - 1) replies) d a a
sent_none first replies d a next live one most = record {
  frames = [];
  delivers = record {
    before = take (first - 1) replies;
    rows = [];
    splits = sym (take-append-drop (first - 1) replies);
    starts = omega (arith, length-take (first - 1) replies);
    next = omega (arith, next);
    are = (refl, live);
    ends = λ e. absurd (cc (live, e));
  };
  wrote = Appends-nil a;
}

-- what is left are these rows
pub sent_none_of : (first : ℕ) (replies rows : List (List ℕ)) (d : Delivery) (a : Option (List ℕ)) → d.next ≡ first → d.over ≡ false → 1 ≤ first → first ≤ length replies + 1 → rows ≡ drop (first - 1) replies → Sent first replies rows d a a
sent_none_of first replies rows d a next live one most is = subst (λ l. Sent first replies l d a a) (sym is) (sent_none first replies d a next live one most)

rows_drop : (xs : List (ArrayVec ℕ)) (i : ℕ) → texts (drop i xs) ≡ drop i (texts xs)
rows_drop xs zero = refl
rows_drop [] (suc i) = refl
rows_drop (x ∷ xs) (suc i) = rows_drop xs i

pub rows_from : (xs : List (ArrayVec ℕ)) (i : ℕ) → texts (take (length xs - i) (drop i xs)) ≡ drop i (texts xs)
rows_from xs i =
    ap texts (take_all (length xs - i) (drop i xs) (omega (arith, length-drop i xs))) ∙ rows_drop xs i

pub still_there : (setup : Setup) (member n : ℕ) (known new : Entries Entry) → IsPrefix known new → n ≤ length (known_replies setup member known) + 1 → n ≤ length (known_replies setup member new) + 1
still_there setup member n known new p h = omega (arith, h, prefix_length (known_replies setup member known) (known_replies setup member new) (replies_grow setup member known new p))

-- ---- one delivery after another

prefix_same : {A : Type 0} (xs ys us vs : List A) → xs ++ us ≡ ys ++ vs → length xs ≡ length ys → (xs ≡ ys) × (us ≡ vs)
prefix_same [] [] us vs e l = (refl, e)
prefix_same [] (y ∷ ys) us vs e l = absurd (omega arith)
prefix_same (x ∷ xs) [] us vs e l = absurd (omega arith)
prefix_same (x ∷ xs) (y ∷ ys) us vs e l =
    let r = prefix_same xs ys us vs (cc e) (omega arith) in
    (cc (e, r.0), r.1)

joined_splits : (before rows rest : List (List ℕ)) (next more left : List (List ℕ)) → before ++ (rows ++ rest) ≡ next ++ (more ++ left) → length next ≡ length before + length rows
    → next ++ (more ++ left) ≡ before ++ ((rows ++ more) ++ left)
joined_splits before rows rest next more left e l =
    let h : next ≡ before ++ rows = (prefix_same next (before ++ rows) (more ++ left) rest (sym e ∙ sym (append_assoc before rows rest)) (omega (arith, l, length-append before rows))).0 in
    ap (λ k. k ++ (more ++ left)) h ∙ (append_assoc before rows (more ++ left) ∙ ap (λ k. before ++ k) (sym (append_assoc rows more left)))

delivers_join : (first : ℕ) (replies longer rest left : List (List ℕ)) (d e : Delivery) (fs gs : List (List ℕ)) → IsPrefix replies longer → Delivers first replies rest d fs → d.over ≡ false → Delivers d.next longer left e gs → Delivers first longer left e (fs ++ gs)
delivers_join first replies longer rest left d e fs gs p s live t = record {
  before = s.before;
  rows = s.rows ++ t.rows;
  splits = t.splits ∙ joined_splits s.before s.rows (rest ++ p.0) t.before t.rows left
      (ap (λ l. s.before ++ l) (sym (append_assoc s.rows rest p.0)) ∙ (sym (append_assoc s.before (s.rows ++ rest) p.0) ∙ (ap (λ l. l ++ p.0) (sym s.splits) ∙ (p.1 ∙ t.splits))))
      (omega (arith, t.starts, s.next, s.starts));
  starts = s.starts;
  next = omega (arith, t.next, s.next, length-append s.rows t.rows);
  are = frames-append s.rows t.rows e.over fs gs (subst (λ b. AreFrames s.rows b fs) live s.are) t.are;
  ends = t.ends;
}

pub sent_join : (first : ℕ) (replies longer rest left : List (List ℕ)) (d e : Delivery) (a b c : Option (List ℕ)) → IsPrefix replies longer → Sent first replies rest d a b → d.over ≡ false → Sent d.next longer left e b c → Sent first longer left e a c
sent_join first replies longer rest left d e a b c p s live t = record {
  frames = s.frames ++ t.frames;
  delivers = delivers_join first replies longer rest left d e s.frames t.frames p s.delivers live t.delivers;
  wrote = subst (Appends a c) (sym (concat-append s.frames t.frames)) (Appends-trans a b c (concat s.frames) (concat t.frames) s.wrote t.wrote);
}

pub sent_some_join : (first : ℕ) (replies longer rest left : List (List ℕ)) (d e : Delivery) (a b c : Option (List ℕ)) → IsPrefix replies longer → Sent first replies rest d a b → d.over ≡ false → SentSome d.next longer left e b c → SentSome first longer left e a c
sent_some_join first replies longer rest left d e a b c p s live t =
    let w = t.wrote.1 in record {
      frames = s.frames ++ t.frames;
      delivers = delivers_join first replies longer rest left d e s.frames t.frames p s.delivers live t.delivers;
      wrote = (
        t.wrote.0,
        record {
          front = concat s.frames ++ w.front;
          bytes_are = concat-append s.frames t.frames ∙ (ap (λ l. concat s.frames ++ l) w.bytes_are ∙ sym (append_assoc (concat s.frames) w.front t.wrote.0));
          wrote = Appends-trans a b c (concat s.frames) w.front s.wrote w.wrote;
        },
      );
    }

sends_front : (old new : Delivery) (xs ys : List (List ℕ)) (ended : Bool) (gs : List (List ℕ)) → 0 < length xs → Sends old new xs ended gs → Sends old new (xs ++ ys) ended gs
sends_front old new [] ys ended gs some s = absurd (omega arith)
sends_front old new (x ∷ xs) ys ended gs some s = s

drop_front : (xs ys : List (List ℕ)) → 0 < length xs → drop 1 (xs ++ ys) ≡ drop 1 xs ++ ys
drop_front [] ys some = absurd (omega arith)
drop_front (x ∷ xs) ys some = refl

-- one row more of a page, of those that are left from i on
pub sent_row : (first : ℕ) (replies all later : List (List ℕ)) (i : ℕ) (old new : Delivery) (gs : List (List ℕ)) (a b c : Option (List ℕ)) → Sent first replies (drop i all ++ later) old a b → old.over ≡ false → i < length all → Sends old new (drop i all) false gs → WritesAll b c gs
    → Sent first replies (drop (i + 1) all ++ later) new a c
sent_row first replies all later i old new gs a b c s live room sends w =
    let some : 0 < length (drop i all) = omega (arith, room, length-drop i all) in
    subst (λ l. Sent first replies l new a c) (drop_front (drop i all) later some ∙ ap (λ l. l ++ later) (drop_one all i))
    (sent_more first replies (drop i all ++ later) old new false gs a b c s live (sends_front old new (drop i all) later false gs some sends) w)

-- a beginning of it was written
pub sent_row_some : (first : ℕ) (replies all later : List (List ℕ)) (i : ℕ) (old new : Delivery) (gs : List (List ℕ)) (a b c : Option (List ℕ)) → Sent first replies (drop i all ++ later) old a b → old.over ≡ false → i < length all → Sends old new (drop i all) false gs → WritesSome b c gs
    → SentSome first replies (drop 1 (drop i all ++ later)) new a c
sent_row_some first replies all later i old new gs a b c s live room sends w =
    let some : 0 < length (drop i all) = omega (arith, room, length-drop i all) in
    sent_some first replies (drop i all ++ later) old new false gs a b c s live (sends_front old new (drop i all) later false gs some sends) w

-- a page, and what is left after it
pub page_all : (xs page : List (List ℕ)) → page ≡ take 64 xs → page ++ drop 64 xs ≡ xs
page_all xs page is = ap (λ l. l ++ drop 64 xs) is ∙ take-append-drop 64 xs

-- if a page is empty, nothing is left
pub page_none : (xs page : List (List ℕ)) → page ≡ take 64 xs → page ≡ [] → page ≡ xs
page_none [] page is none = is
page_none (x ∷ xs) page is none = absurd (cc (is, none))

-- a page that is not full is all
pub page_short : (xs page : List (List ℕ)) → page ≡ take 64 xs → length page < 64 → drop 64 xs ≡ []
page_short xs page is few = drop_all 64 xs (omega (arith, few, ap (λ (l : List (List ℕ)). length l) is, length-take 64 xs))

-- what goes out after what has gone out, until a worker stops
pub until_join : (setup : Setup) (member first : ℕ) (known longer : Entries Entry) (rest : List (List ℕ)) (d e : Delivery) (a b c : Option (List ℕ)) (s : Stop) → IsPrefix known longer → Sent first (known_replies setup member known) rest d a b → d.over ≡ false
    → SentUntil (day_over setup longer) d.next (known_replies setup member longer) e b c s → SentUntil (day_over setup longer) first (known_replies setup member longer) e a c s
until_join setup member first known longer rest d e a b c stop.PeerStopped p s live (is, left, t) =
    (is, left, sent_join first (known_replies setup member known) (known_replies setup member longer) rest left d e a b c (replies_grow setup member known longer p) s live t)
until_join setup member first known longer rest d e a b c (stop.Ended x) p s live (is, over, by, t) =
    (is, over, by, sent_join first (known_replies setup member known) (known_replies setup member longer) rest [] d e a b c (replies_grow setup member known longer p) s live t)
until_join setup member first known longer rest d e a b c (stop.Faulted x) p s live (left, inl (t, is)) =
    (left, inl (sent_join first (known_replies setup member known) (known_replies setup member longer) rest left d e a b c (replies_grow setup member known longer p) s live t, is))
until_join setup member first known longer rest d e a b c (stop.Faulted x) p s live (left, inr (is, by, t)) =
    (left, inr (is, by, sent_some_join first (known_replies setup member known) (known_replies setup member longer) rest left d e a b c (replies_grow setup member known longer p) s live t))

pub known_grows : (setup : Setup) (member : ℕ) (known longer : Entries Entry) → IsPrefix known longer → IsPrefix (known_replies setup member known) (known_replies setup member longer)
known_grows setup member known longer p = replies_grow setup member known longer p

-- a number of a reply that is there, or of the next one
pub sent_bounds : (first : ℕ) (replies rest : List (List ℕ)) (d : Delivery) (a b : Option (List ℕ)) → Sent first replies rest d a b → (1 ≤ d.next) × (d.next ≤ length replies + 1)
sent_bounds first replies rest d a b s =
    let room = sent_room first replies rest d a b s in
    (omega (arith, s.delivers.next, s.delivers.starts), omega (arith, room))

-- ---- what went into a batch first

pub batch_sent : (first : ℕ) (replies rest : List (List ℕ)) (d : Delivery) (bytes : List ℕ) (a c : Option (List ℕ)) → Sent first replies rest d (Some []) (Some bytes) → Appends a c bytes → Sent first replies rest d a c
batch_sent first replies rest d bytes a c s w = record { frames = s.frames; delivers = s.delivers; wrote = subst (Appends a c) s.wrote w }

batch_cut : (first : ℕ) (replies rest : List (List ℕ)) (d : Delivery) (bytes left : List ℕ) (a c : Option (List ℕ)) → Sent first replies rest d (Some []) (Some bytes) → Writes a c bytes left → SentSome first replies rest d a c
batch_cut first replies rest d bytes left a c s w = record { frames = s.frames; delivers = s.delivers; wrote = (left, subst (λ l. Writes a c l left) s.wrote w) }

some_sent : (first : ℕ) (replies rest : List (List ℕ)) (d : Delivery) (bytes : List ℕ) (a c : Option (List ℕ)) → SentSome first replies rest d (Some []) (Some bytes) → Appends a c bytes → SentSome first replies rest d a c
some_sent first replies rest d bytes a c s w =
    let v = s.wrote.1 in record {
      frames = s.frames;
      delivers = s.delivers;
      wrote = (s.wrote.0, record { front = v.front; bytes_are = v.bytes_are; wrote = subst (Appends a c) v.wrote w });
    }

some_cut : (first : ℕ) (replies rest : List (List ℕ)) (d : Delivery) (bytes left : List ℕ) (a c : Option (List ℕ)) → SentSome first replies rest d (Some []) (Some bytes) → Writes a c bytes left → SentSome first replies rest d a c
some_cut first replies rest d bytes left a c s w =
    let v = s.wrote.1 in record {
      frames = s.frames;
      delivers = s.delivers;
      wrote = (
        left ++ s.wrote.0,
        record {
          front = w.front;
          bytes_are = v.bytes_are ∙ (ap (λ l. l ++ s.wrote.0) (sym v.wrote ∙ w.bytes_are) ∙ append_assoc w.front left s.wrote.0);
          wrote = w.wrote;
        },
      );
    }

-- the batch was written
pub until_sent : (past : Bool) (first : ℕ) (replies : List (List ℕ)) (d : Delivery) (bytes : List ℕ) (a c : Option (List ℕ)) (s : Stop) → SentUntil past first replies d (Some []) (Some bytes) s → Appends a c bytes → SentUntil past first replies d a c s
until_sent past first replies d bytes a c stop.PeerStopped (is, rest, t) w = (is, rest, batch_sent first replies rest d bytes a c t w)
until_sent past first replies d bytes a c (stop.Ended e) (is, over, by, t) w = (is, over, by, batch_sent first replies [] d bytes a c t w)
until_sent past first replies d bytes a c (stop.Faulted f) (rest, inl (t, is)) w = (rest, inl (batch_sent first replies rest d bytes a c t w, is))
until_sent past first replies d bytes a c (stop.Faulted f) (rest, inr (is, by, t)) w = (rest, inr (is, by, some_sent first replies rest d bytes a c t w))

-- the output failed
pub until_cut : (past : Bool) (first : ℕ) (replies : List (List ℕ)) (d : Delivery) (bytes left : List ℕ) (a c : Option (List ℕ)) (s : Stop) → SentUntil past first replies d (Some []) (Some bytes) s → Writes a c bytes left → SentUntil past first replies d a c (stop.Faulted fault.Write)
until_cut past first replies d bytes left a c stop.PeerStopped (is, rest, t) w = (rest, inr (refl, λ o. absurd (cc (is, o)), batch_cut first replies rest d bytes left a c t w))
until_cut past first replies d bytes left a c (stop.Ended e) (is, over, by, t) w = ([], inr (refl, λ _. by, batch_cut first replies [] d bytes left a c t w))
until_cut past first replies d bytes left a c (stop.Faulted f) (rest, inl (t, is)) w = (rest, inr (refl, λ o. absurd (cc (is, o)), batch_cut first replies rest d bytes left a c t w))
until_cut past first replies d bytes left a c (stop.Faulted f) (rest, inr (is, by, t)) w = (rest, inr (refl, by, some_cut first replies rest d bytes left a c t w))

pub all_cut : (past : Bool) (first : ℕ) (replies rest : List (List ℕ)) (d : Delivery) (bytes left : List ℕ) (a c : Option (List ℕ)) → d.over ≡ false → Sent first replies rest d (Some []) (Some bytes) → Writes a c bytes left → SentUntil past first replies d a c (stop.Faulted fault.Write)
all_cut past first replies rest d bytes left a c live s w = (rest, inr (refl, λ o. absurd (cc (live, o)), batch_cut first replies rest d bytes left a c s w))

-- the replies of a page are the next ones
pub page_ahead : (replies rows : List (List ℕ)) (d : Delivery) (bytes : List ℕ) → d.over ≡ false → 1 ≤ d.next → d.next ≤ length replies + 1 → rows ≡ take 64 (drop (d.next - 1) replies) → bytes ≡ [] → Sent d.next replies (rows ++ drop 64 (drop (d.next - 1) replies)) d (Some []) (Some bytes)
page_ahead replies rows d bytes live one most page none =
    let later = drop 64 (drop (d.next - 1) replies) in
    subst (λ l. Sent d.next replies (rows ++ later) d (Some []) (Some l)) (sym none) (sent_none_of d.next replies (rows ++ later) d (Some []) refl live one most (page_all (drop (d.next - 1) replies) rows page))

-- the output failed, whether all of a page went into the batch or not
pub fill_cut : (r : Result (Unit {0}) Stop) (past : Bool) (first : ℕ) (replies rows later : List (List ℕ)) (old new : Delivery) (before after left : List ℕ) (a c : Option (List ℕ)) → OnOk r (new.over ≡ false) → OnOk r (SendsMore rows old new before after) → IfErr r (StopsIn rows old new before after)
    → Sent first replies (rows ++ later) old (Some []) (Some before) → Writes a c after left → SentUntil past first replies new a c (stop.Faulted fault.Write)
fill_cut (Ok u) past first replies rows later old new before after left a c live ok err s w = all_cut past first replies later new after left a c live (ok first replies later (Some []) s) w
fill_cut (Err e) past first replies rows later old new before after left a c live ok err s w = until_cut past first replies new after left a c e (err past first replies later (Some []) s) w

-- one reply goes out by a turn
pub next_of : (old new : Delivery) (rows : List (List ℕ)) (i : ℕ) (frames : List (List ℕ)) → i < length rows → Sends old new (drop i rows) false frames → new.next ≡ old.next + 1
next_of old new rows i frames room s =
    omega (arith, sends_next old new (drop i rows) false frames s, length-take 1 (drop i rows), length-drop i rows, room)
