-- A history that grows by an entry.
use Rattle.std.proofs.Common.{◌≡◌, ℕ, None, zero, suc, ◌+◌, ◌<◌, ◌≤◌, Bool, true, false, cond, eqb, eqb-true, eq-eqb, List, [], ◌∷◌, ◌++◌, map, length, set, take, drop, min, slice_index, replicate, refl, ap, sym, ◌∙◌, subst, arith, append_assoc, append-nil, length-append}
use Rattle.std.proofs.lemmas.List.{map-append, take-append-le, take-append-drop}
use Rattle.std.proofs.Math.Seq.{drop-append_seam, take-append_seam}
use Rattle.std.proofs.lemmas.List.{length-replicate}
use Rattle.hx_blog.specs.Feed as blog
use Rattle.hx_ouch.specs.declared.outbound.Outbound.{Outbound}
use Rattle.hx_itch.specs.Message.{feed_bytes}
use Rattle.hx_ouch.specs.Outbound.{outbound_bytes}
use Rattle.hx_members.specs.Setups.{Setup}
use Rattle.hx_rules.specs.declared.event.Event.{Event}
use Rattle.hx_market.specs.Markets.{Market, opening}
use Rattle.hx_market.specs.Outputs.{Reply}
use Rattle.hx_market.specs.Refusals.{refusal}
use Rattle.hx_laws.specs.Recorded.{AreRecorded}
use Rattle.hx_laws.proofs.Accepted.{accepted_push, market_after_push, accepted_front}
use Rattle.hx_market.specs.Steps.{step, market_after, outputs_from, run, output, feed_of, replies_among, replies_of, feed, replies}
use Rattle.hx_desk.specs.declared.entry.Entry.{Entry}
use Rattle.hx_desk.specs.declared.mark.Mark.{Mark}
use Rattle.hx_desk.specs.Rows.{RowList, row_of, no_rows, replies_spelled, with_reply, with_replies, members_of, times, shown, RoomyRows, published_row}
use Rattle.hx_desk.specs.Entries.{events_of, feed_spelled, ledger_from, ledger}
use Rattle.hx_blog.specs.Ends.{WriterState}
use Rattle.hx_market.specs.MarketModel.{Seen}
use Rattle.hx_desk.specs.Desks.{DeskState, IsStanding, desk_of}
use Rattle.hx_desk.specs.InStep.{IsMark, AreInStep, replies_after}
use Rattle.hx_blog.proofs.Feeds.{feed-append}
use Rattle.hx_desk.proofs.Growth.{replies_append}
use Rattle.hx_units.proofs.Lists.{slice_index-zeros}

-- One more event.

ledger_more : (setup : Setup) (a : Market) (xs : List Entry) (e : Entry)
    → ledger_from setup a (xs ++ e ∷ []) ≡ ledger_from setup a xs ++ (e, feed_spelled (step setup (market_after setup a (events_of xs)) e.event).output.feed) ∷ []
unfolding ledger_from market_after
ledger_more setup a [] e = refl
ledger_more setup a (x ∷ xs) e = ap (λ (l : blog.Entries Entry). (x, feed_spelled (step setup a x.event).output.feed) ∷ l) (ledger_more setup (step setup a x.event).market xs e)

replies_more : (setup : Setup) (a : Market) (p : ℕ) (xs : List Event) (e : Event)
    → replies_of p (outputs_from setup a (xs ++ e ∷ [])) ≡ replies_of p (outputs_from setup a xs) ++ replies_among p (step setup (market_after setup a xs) e).output.replies
unfolding outputs_from
replies_more setup a p xs e =
    replies_append setup a p xs (e ∷ [])
    ∙ ap (λ (l : List Outbound). replies_of p (outputs_from setup a xs) ++ l) (append-nil (replies_among p (step setup (market_after setup a xs) e).output.replies))

-- The events that are accepted.

-- The feed that is published.

published_from : (setup : Setup) (a : Market) (xs : List Entry) → blog.feed (ledger_from setup a xs) ≡ feed_spelled (feed_of (outputs_from setup a (events_of xs)))
unfolding ledger_from outputs_from
published_from setup a [] = refl
published_from setup a (x ∷ xs) =
    let o = step setup a x.event in
    ap (λ (l : List (List ℕ)). feed_spelled o.output.feed ++ l) (published_from setup o.market xs)
    ∙ sym (map-append feed_bytes o.output.feed (feed_of (outputs_from setup o.market (events_of xs))))

pub published_is : (setup : Setup) (history : List Entry) → blog.feed (ledger setup history) ≡ feed_spelled (feed setup (events_of history))
unfolding ledger feed output
published_is setup history = published_from setup (opening setup) history

-- The rows.

set_same : (rows : RowList) (i : ℕ) (r : List (List ℕ)) → i < length rows → row_of (set rows i r) i ≡ r
set_same [] i r in' = absurd (omega arith)
set_same (x ∷ rows) zero r in' = refl
set_same (x ∷ rows) (suc i) r in' = set_same rows i r (omega arith)

set_other : (rows : RowList) (i k : ℕ) (r : List (List ℕ)) → (i ≡ k → ⊥) → row_of (set rows i r) k ≡ row_of rows k
set_other [] i k r ne = refl
set_other (x ∷ rows) zero zero r ne = absurd (ne refl)
set_other (x ∷ rows) zero (suc k) r ne = refl
set_other (x ∷ rows) (suc i) zero r ne = refl
set_other (x ∷ rows) (suc i) (suc k) r ne = set_other rows i k r (λ e. ne (ap (λ n. suc n) e))

length-set_row : (rows : RowList) (i : ℕ) (r : List (List ℕ)) → length (set rows i r) ≡ length rows
length-set_row [] i r = refl
length-set_row (x ∷ rows) zero r = refl
length-set_row (x ∷ rows) (suc i) r = ap (λ n. suc n) (length-set_row rows i r)

pub length-with_replies : (rows : RowList) (rs : List Reply) → length (with_replies rows rs) ≡ length rows
length-with_replies rows [] = refl
length-with_replies rows (r ∷ rs) = length-with_replies (with_reply rows r) rs ∙ length-set_row rows r.0 (row_of rows r.0 ++ outbound_bytes r.1 ∷ [])

row_with_reply : (rows : RowList) (r : Reply) (p : ℕ) → p < length rows → row_of (with_reply rows r) p ≡ row_of rows p ++ replies_spelled (replies_among p (r ∷ []))
row_with_reply rows r p in' = at (eqb r.0 p) refl
  where
    new : List (List ℕ)
    new = row_of rows r.0 ++ outbound_bytes r.1 ∷ []

    at : (b : Bool) → eqb r.0 p ≡ b → row_of (set rows r.0 (row_of rows r.0 ++ outbound_bytes r.1 ∷ [])) p ≡ row_of rows p ++ map outbound_bytes (cond b (r.1 ∷ []) [])
    at true e =
        let same : r.0 ≡ p = eqb-true r.0 p e in
        ap (λ k. row_of (set rows k (row_of rows k ++ outbound_bytes r.1 ∷ [])) p) same ∙ set_same rows p (row_of rows p ++ outbound_bytes r.1 ∷ []) in'
    at false e = set_other rows r.0 p (row_of rows r.0 ++ outbound_bytes r.1 ∷ []) (λ h. absurd (let z : true ≡ false = sym (eq-eqb r.0 p h) ∙ e in cc)) ∙ sym (append-nil (row_of rows p))

among_more : (p : ℕ) (r : Reply) (rs : List Reply) → replies_among p (r ∷ rs) ≡ replies_among p (r ∷ []) ++ replies_among p rs
among_more p r rs = at (eqb r.0 p)
  where
    at : (b : Bool) → cond b (r.1 ∷ replies_among p rs) (replies_among p rs) ≡ cond b (r.1 ∷ []) [] ++ replies_among p rs
    at true = refl
    at false = refl

row_with_replies : (rows : RowList) (rs : List Reply) (p : ℕ) → p < length rows → row_of (with_replies rows rs) p ≡ row_of rows p ++ replies_spelled (replies_among p rs)
row_with_replies rows [] p in' = sym (append-nil (row_of rows p))
row_with_replies rows (r ∷ rs) p in' =
    let one = replies_among p (r ∷ []) in
    row_with_replies (with_reply rows r) rs p (subst (λ n. p < n) (sym (length-set_row rows r.0 (row_of rows r.0 ++ outbound_bytes r.1 ∷ []))) in')
    ∙ ap (λ (l : List (List ℕ)). l ++ replies_spelled (replies_among p rs)) (row_with_reply rows r p in')
    ∙ append_assoc (row_of rows p) (replies_spelled one) (replies_spelled (replies_among p rs))
    ∙ ap (λ (l : List (List ℕ)). row_of rows p ++ l) (sym (map-append outbound_bytes one (replies_among p rs)) ∙ ap replies_spelled (sym (among_more p r rs)))

row_of_none : (n p : ℕ) → row_of (replicate n []) p ≡ []
row_of_none zero p = refl
row_of_none (suc n) zero = refl
row_of_none (suc n) (suc p) = row_of_none n p

-- Beginnings of a history.

-- a history that grows keeps its beginnings
take_more : (n : ℕ) (h : List Entry) (e : Entry) → n ≤ length h → take n (h ++ e ∷ []) ≡ take n h
take_more n h e l = take-append-le n h (e ∷ []) l

pub take_whole : {A : Type 0} (xs : List A) (n : ℕ) → n ≡ length xs → take n xs ≡ xs
take_whole [] zero is = refl
take_whole [] (suc n) is = refl
take_whole (x ∷ xs) zero is = absurd (omega arith)
take_whole (x ∷ xs) (suc n) is = ap (λ l. x ∷ l) (take_whole xs n (omega arith))

ledger_take_from : (setup : Setup) (a : Market) (n : ℕ) (h : List Entry) → ledger_from setup a (take n h) ≡ take n (ledger_from setup a h)
unfolding ledger_from
ledger_take_from setup a zero h = refl
ledger_take_from setup a (suc n) [] = refl
ledger_take_from setup a (suc n) (x ∷ h) = ap (λ (l : blog.Entries Entry). (x, feed_spelled (step setup a x.event).output.feed) ∷ l) (ledger_take_from setup (step setup a x.event).market n h)

pub ledger_take : (setup : Setup) (n : ℕ) (h : List Entry) → ledger setup (take n h) ≡ take n (ledger setup h)
unfolding ledger
ledger_take setup n h = ledger_take_from setup (opening setup) n h

-- a beginning, and what lies between it and a longer one
pub take_between : {A : Type 0} (xs : List A) (n m : ℕ) → n ≤ m → take n xs ++ drop n (take m xs) ≡ take m xs
take_between xs zero m l = refl
take_between [] (suc n) zero l = absurd (omega arith)
take_between [] (suc n) (suc m) l = refl
take_between (x ∷ xs) (suc n) zero l = absurd (omega arith)
take_between (x ∷ xs) (suc n) (suc m) l = ap (λ (v : List _). x ∷ v) (take_between xs n m (omega arith))

same_rest : {A : Type 0} (xs ys zs : List A) → xs ++ ys ≡ xs ++ zs → ys ≡ zs
same_rest xs ys zs e = sym (drop-append_seam xs ys) ∙ (ap (drop (length xs)) e ∙ drop-append_seam xs zs)

-- the replies after a history begin with those after its beginning
pub replies_begin : (setup : Setup) (p : ℕ) (n : ℕ) (h : List Entry) → (rest : List (List ℕ)) × (replies_after setup p (take n h) ++ rest ≡ replies_after setup p h)
unfolding replies output
replies_begin setup p n h =
    let xs = events_of (take n h) in
    let ys = events_of (drop n h) in
    let more = replies_of p (outputs_from setup (market_after setup (opening setup) xs) ys) in
    let all : xs ++ ys ≡ events_of h = sym (map-append (λ (e : Entry). e.event) (take n h) (drop n h)) ∙ ap events_of (take-append-drop n h) in (
      replies_spelled more,
      sym (map-append outbound_bytes (replies_of p (outputs_from setup (opening setup) xs)) more)
          ∙ ap replies_spelled (sym (replies_append setup (opening setup) p xs ys) ∙ ap (λ (es : List Event). replies_of p (outputs_from setup (opening setup) es)) all),
    )

-- a beginning of a history that the market accepts
pub accepted_take : (setup : Setup) (n : ℕ) (h : List Entry) → AreRecorded setup (events_of h) → AreRecorded setup (events_of (take n h))
accepted_take setup n h all =
    let parts : events_of (take n h) ++ events_of (drop n h) ≡ events_of h = sym (map-append (λ (e : Entry). e.event) (take n h) (drop n h)) ∙ ap events_of (take-append-drop n h) in
    accepted_front setup (opening setup) (events_of (take n h)) (events_of (drop n h)) (subst (AreRecorded setup) (sym parts) all)

pub fewer_replies : (setup : Setup) (p : ℕ) (n : ℕ) (h : List Entry) → length (replies_after setup p (take n h)) ≤ length (replies_after setup p h)
fewer_replies setup p n h =
    let b = replies_begin setup p n h in
    omega (arith, sym (ap (λ (l : List (List ℕ)). length l) b.1) ∙ length-append (replies_after setup p (take n h)) b.0)

-- The number of times that members are answered.

times_more : (m : ℕ) (xs ys : List ℕ) → times m (xs ++ ys) ≡ times m xs + times m ys
times_more m [] ys = omega arith
times_more m (x ∷ xs) ys = at (cond (eqb x m) 1 0) (times m (xs ++ ys)) (times m xs) (times m ys) (times_more m xs ys)
  where
    at : (b n k j : ℕ) → n ≡ k + j → b + n ≡ b + k + j
    at b n k j e = omega arith

times_members : (m : ℕ) (rs : List Reply) → times m (members_of rs) ≡ length (replies_spelled (replies_among m rs))
times_members m [] = refl
times_members m (r ∷ rs) = at (eqb r.0 m) (times m (members_of rs)) (times_members m rs)
  where
    at : (b : Bool) (n : ℕ) → n ≡ length (replies_spelled (replies_among m rs)) → ◌≡◌ {A = ℕ} (cond b 1 0 + n) (length (replies_spelled (cond b (r.1 ∷ replies_among m rs) (replies_among m rs))))
    at true n e = omega arith
    at false n e = omega arith

-- The rows that are shown.

pub shown_row : (counts : List ℕ) (rows : RowList) (p : ℕ) → p < length counts → p < length rows → row_of (shown counts rows) p ≡ take (slice_index counts p) (row_of rows p)
shown_row [] rows p l m = absurd (omega arith)
shown_row (n ∷ counts) [] p l m = absurd (omega arith)
shown_row (n ∷ counts) (row ∷ rows) zero l m = refl
shown_row (n ∷ counts) (row ∷ rows) (suc p) l m = shown_row counts rows p (omega arith) (omega arith)

shown_same : (counts : List ℕ) (rows more : RowList) → length more ≡ length rows → ((p : ℕ) → p < length rows → take (slice_index counts p) (row_of more p) ≡ take (slice_index counts p) (row_of rows p))
    → shown counts more ≡ shown counts rows
shown_same [] rows more e f = refl
shown_same (n ∷ counts) [] [] e f = refl
shown_same (n ∷ counts) [] (s ∷ more) e f = absurd (omega arith)
shown_same (n ∷ counts) (r ∷ rows) [] e f = absurd (omega arith)
shown_same (n ∷ counts) (r ∷ rows) (s ∷ more) e f = let here : take n s ≡ take n r = f 0 (omega arith) in let rest = shown_same counts rows more (omega arith) (λ p l. f (suc p) (omega arith)) in (λ i. here i ∷ rest i)

shown_none : (n : ℕ) → shown (replicate n 0) (replicate n []) ≡ replicate n []
shown_none zero = refl
shown_none (suc n) = ap (λ (l : RowList). [] ∷ l) (shown_none n)

pub shows_nothing : (counts : List ℕ) (rows : RowList) → counts ≡ replicate 4096 0 → rows ≡ no_rows → shown counts rows ≡ no_rows
shows_nothing counts rows c r = (λ i. shown (c i) (r i)) ∙ shown_none 4096

-- Marks.

mark_more : (setup : Setup) (h : List Entry) (e : Entry) (mark : Mark) → IsMark setup h mark → IsMark setup (h ++ e ∷ []) mark
mark_more setup h e mark is =
    let same : take mark.entries h ≡ take mark.entries (h ++ e ∷ []) = sym (take_more mark.entries h e is.within) in
    record {
      within = omega (arith, is.within, length-append h (e ∷ []));
      messages = is.messages ∙ ap (λ (k : List Entry). length (blog.feed (ledger setup k))) same;
      phase = is.phase ∙ ap (λ (k : List Entry). (run setup (events_of k)).phase) same;
    }

-- The parts of a desk.

pub stands : (d : DeskState) (staged : List (List ℕ)) (rows : RowList) (counts : List ℕ) (published_end sealed : Mark) (writing waiting : List ℕ)
    → AreInStep d.setup d.market d.published staged d.history rows counts published_end sealed writing waiting
    → d.published_end ≡ published_end.entries → d.sealed ≡ sealed.entries → d.rows ≡ shown counts rows → IsStanding d
stands d staged rows counts published_end sealed writing waiting s is_published is_sealed is_shown =
    let same : take published_end.entries d.history ≡ take d.published_end d.history = ap (λ n. take n d.history) (sym is_published) in
    record {
      order = omega (arith, s.order, is_published, is_sealed);
      within = omega (arith, s.sealed_mark.within, is_sealed);
      market = s.runs;
      accepted = s.accepted;
      published = s.published_feed ∙ ap (ledger d.setup) same;
      rows = λ p l.
          let b = replies_begin d.setup p published_end.entries d.history in
          ap (λ (r : RowList). row_of r p) is_shown
          ∙ shown_row counts rows p (omega (arith, s.sized_counts)) (omega (arith, s.sized_rows))
          ∙ ap (λ n. take n (row_of rows p)) (s.published_replies p l)
          ∙ ap (take (length (replies_after d.setup p (take published_end.entries d.history)))) (s.replies p l ∙ sym b.1)
          ∙ take-append_seam (replies_after d.setup p (take published_end.entries d.history)) b.0
          ∙ ap (λ (k : List Entry). replies_after d.setup p k) same;
    }

pub desk_stands : (w : WriterState Entry) (seen : Seen) (h : List Entry) (rows : RoomyRows) (published_end sealed : Mark) (reserved : ℕ) (writing waiting : List ℕ)
    → AreInStep seen.setup seen.market w.published w.staged h rows.rows rows.published_end published_end sealed writing waiting → IsStanding (desk_of w seen h rows published_end sealed reserved)
desk_stands w seen h rows published_end sealed reserved writing waiting s = stands (desk_of w seen h rows published_end sealed reserved) w.staged rows.rows rows.published_end published_end sealed writing waiting s refl refl refl

-- what a member's row shows are the published replies to the member
pub shows : (rows : RoomyRows) (p : ℕ) → p < 4096 → length rows.published_end ≡ 4096 → length rows.rows ≡ 4096 → published_row rows p ≡ row_of (shown rows.published_end rows.rows) p
shows rows p l published_end all = sym (shown_row rows.published_end rows.rows p (omega (arith, published_end)) (omega (arith, all)))

pub starts : (setup : Setup) (market : Market) (published : blog.Entries Entry) (staged : List (List ℕ)) (h : List Entry) (rows : RowList) (counts : List ℕ) (start : Mark) (writing waiting : List ℕ)
    → market ≡ opening setup → published ≡ [] → staged ≡ [] → h ≡ [] → rows ≡ no_rows → counts ≡ replicate 4096 0
    → start.entries ≡ 0 → start.messages ≡ 0 → start.phase ≡ market.phase → writing ≡ [] → waiting ≡ []
    → AreInStep setup market published staged h rows counts start start writing waiting
unfolding run market_after ledger ledger_from replies output outputs_from
starts setup market published staged h rows counts start writing waiting opens nothing unstaged empty is_empty zero_counts at_start no_messages phase nobody nobody' =
    let none : take start.entries h ≡ h = take_whole h start.entries (omega (arith, at_start, ap (λ (k : List Entry). length k) empty)) in
    let mark : IsMark setup h start = record {
      within = omega (arith, at_start);
      messages = no_messages ∙ ap (λ (k : List Entry). length (blog.feed (ledger setup k))) (sym (none ∙ empty));
      phase = phase ∙ (ap (λ (m : Market). m.phase) opens ∙ ap (λ (k : List Entry). (run setup (events_of k)).phase) (sym (none ∙ empty)));
    } in
    let row : (p : ℕ) → row_of rows p ≡ replies_after setup p h = λ p. ap (λ (r : RowList). row_of r p) is_empty ∙ (row_of_none 4096 p ∙ ap (λ (k : List Entry). replies_after setup p k) (sym empty)) in
    let count : (p : ℕ) → slice_index counts p ≡ length (replies_after setup p h) =
    λ p. ap (λ (k : List ℕ). slice_index k p) zero_counts ∙ (slice_index-zeros 4096 p ∙ ap (λ (k : List Entry). length (replies_after setup p k)) (sym empty)) in
    let before : (p : ℕ) → slice_index counts p ≡ length (replies_after setup p (take start.entries h)) = λ p. count p ∙ ap (λ (k : List Entry). length (replies_after setup p k)) (sym none) in
    record {
      runs = opens ∙ ap (λ (k : List Entry). run setup (events_of k)) (sym empty);
      accepted = subst (λ (k : List Entry). AreRecorded setup (events_of k)) (sym empty) tt;
      published_mark = mark;
      sealed_mark = mark;
      order = omega arith;
      published_feed = nothing ∙ ap (ledger setup) (sym (none ∙ empty));
      all_feed = (λ i. blog.feed (nothing i) ++ unstaged i) ∙ ap (λ (k : List Entry). blog.feed (ledger setup k)) (sym empty);
      sized_rows = ap (λ (r : RowList). length r) is_empty ∙ length-replicate {A = List (List ℕ)} 4096 [];
      sized_counts = ap (λ (k : List ℕ). length k) zero_counts ∙ length-replicate {A = ℕ} 4096 0;
      replies = λ p l. row p;
      published_replies = λ p l. before p;
      writing_replies = λ p l. omega (arith, before p, ap (λ (k : List ℕ). times p k) nobody);
      all_replies = λ p l. omega (arith, count p, ap (λ (k : List ℕ). times p k) nobody, ap (λ (k : List ℕ). times p k) nobody');
    }

-- One more entry.

replies_next : (setup : Setup) (market : Market) (p : ℕ) (h : List Entry) (e : Entry) → market ≡ run setup (events_of h)
    → replies_after setup p (h ++ e ∷ []) ≡ replies_after setup p h ++ replies_spelled (replies_among p (step setup market e.event).output.replies)
unfolding run replies output
replies_next setup market p h e runs =
    ap (λ (es : List Event). replies_spelled (replies setup p es)) (map-append (λ (x : Entry). x.event) h (e ∷ []))
    ∙ ap replies_spelled (replies_more setup (opening setup) p (events_of h) e.event)
    ∙ map-append outbound_bytes (replies setup p (events_of h)) (replies_among p (step setup (run setup (events_of h)) e.event).output.replies)
    ∙ ap (λ (m : Market). replies_after setup p h ++ replies_spelled (replies_among p (step setup m e.event).output.replies)) (sym runs)

feed_next : (setup : Setup) (market : Market) (h : List Entry) (e : Entry) → market ≡ run setup (events_of h)
    → blog.feed (ledger setup (h ++ e ∷ [])) ≡ blog.feed (ledger setup h) ++ feed_spelled (step setup market e.event).output.feed
unfolding run ledger
feed_next setup market h e runs =
    ap blog.feed (ledger_more setup (opening setup) h e)
    ∙ feed-append (ledger setup h) ((e, feed_spelled (step setup (run setup (events_of h)) e.event).output.feed) ∷ [])
    ∙ ap (λ (l : List (List ℕ)). blog.feed (ledger setup h) ++ l) (append-nil (feed_spelled (step setup (run setup (events_of h)) e.event).output.feed))
    ∙ ap (λ (m : Market). blog.feed (ledger setup h) ++ feed_spelled (step setup m e.event).output.feed) (sym runs)

market_next : (setup : Setup) (market : Market) (h : List Entry) (e : Entry) → market ≡ run setup (events_of h)
    → (step setup market e.event).market ≡ run setup (events_of (h ++ e ∷ []))
unfolding run
market_next setup market h e runs =
    ap (λ (m : Market). (step setup m e.event).market) runs
    ∙ sym (market_after_push setup (opening setup) (events_of h) e.event)
    ∙ ap (run setup) (sym (map-append (λ (x : Entry). x.event) h (e ∷ [])))

accepted_next : (setup : Setup) (market : Market) (h : List Entry) (e : Entry) → market ≡ run setup (events_of h) → AreRecorded setup (events_of h) → refusal setup market.recorded e.event ≡ None
    → AreRecorded setup (events_of (h ++ e ∷ []))
unfolding run
accepted_next setup market h e runs all fits =
    subst (AreRecorded setup) (sym (map-append (λ (x : Entry). x.event) h (e ∷ [])))
    (accepted_push setup (opening setup) (events_of h) e.event all (subst (λ (m : Market). refusal setup m.recorded e.event ≡ None) runs fits))

pub grown : (setup : Setup) (market : Market) (published : blog.Entries Entry) (staged : List (List ℕ)) (h : List Entry) (rows : RowList) (counts : List ℕ) (published_end sealed : Mark) (writing waiting : List ℕ) (e : Entry)
    → AreInStep setup market published staged h rows counts published_end sealed writing waiting → refusal setup market.recorded e.event ≡ None
    → AreInStep setup (step setup market e.event).market published (staged ++ feed_spelled (step setup market e.event).output.feed) (h ++ e ∷ [])
    (with_replies rows (step setup market e.event).output.replies) counts published_end sealed writing (waiting ++ members_of (step setup market e.event).output.replies)
grown setup market published staged h rows counts published_end sealed writing waiting e s fits =
    let rs = (step setup market e.event).output.replies in
    let ms = feed_spelled (step setup market e.event).output.feed in
    let before : (n : ℕ) → n ≤ length h → take n h ≡ take n (h ++ e ∷ []) = λ n l. sym (take_more n h e l) in
    record {
      runs = market_next setup market h e s.runs;
      accepted = accepted_next setup market h e s.runs s.accepted fits;
      published_mark = mark_more setup h e published_end s.published_mark;
      sealed_mark = mark_more setup h e sealed s.sealed_mark;
      order = s.order;
      published_feed = s.published_feed ∙ ap (ledger setup) (before published_end.entries s.published_mark.within);
      all_feed = sym (append_assoc (blog.feed published) staged ms) ∙ (ap (λ (l : List (List ℕ)). l ++ ms) s.all_feed ∙ sym (feed_next setup market h e s.runs));
      sized_rows = length-with_replies rows rs ∙ s.sized_rows;
      sized_counts = s.sized_counts;
      replies = λ p l.
          row_with_replies rows rs p (omega (arith, s.sized_rows))
          ∙ ap (λ (r : List (List ℕ)). r ++ replies_spelled (replies_among p rs)) (s.replies p l)
          ∙ sym (replies_next setup market p h e s.runs);
      published_replies = λ p l. s.published_replies p l ∙ ap (λ (k : List Entry). length (replies_after setup p k)) (before published_end.entries s.published_mark.within);
      writing_replies = λ p l. s.writing_replies p l ∙ ap (λ (k : List Entry). length (replies_after setup p k)) (before sealed.entries s.sealed_mark.within);
      all_replies = λ p l.
          omega (
            arith,
            times_more p waiting (members_of rs),
            times_members p rs,
            s.all_replies p l,
            ap (λ (r : List (List ℕ)). length r) (replies_next setup market p h e s.runs),
            length-append (replies_after setup p h) (replies_spelled (replies_among p rs)),
          );
    }

pub grown_to : (setup setup' : Setup) (market market' : Market) (published published' : blog.Entries Entry) (staged staged' : List (List ℕ)) (h h' : List Entry) (rows rows' : RowList) (counts counts' : List ℕ) (published_end sealed : Mark)
    (writing waiting waiting' : List ℕ) (e : Entry)
    → AreInStep setup market published staged h rows counts published_end sealed writing waiting → refusal setup market.recorded e.event ≡ None
    → setup' ≡ setup → market' ≡ (step setup market e.event).market → published' ≡ published → staged' ≡ staged ++ feed_spelled (step setup market e.event).output.feed → h' ≡ h ++ e ∷ []
    → rows' ≡ with_replies rows (step setup market e.event).output.replies → counts' ≡ counts → waiting' ≡ waiting ++ members_of (step setup market e.event).output.replies
    → AreInStep setup' market' published' staged' h' rows' counts' published_end sealed writing waiting'
grown_to setup setup' market market' published published' staged staged' h h' rows rows' counts counts' published_end sealed writing waiting waiting' e s fits p q r t u v w x =
    subst (λ (z : Setup × Market × blog.Entries Entry × List (List ℕ) × List Entry × RowList × List ℕ × List ℕ). AreInStep z.0 z.1 z.2 z.3 z.4 z.5 z.6 published_end sealed writing z.7)
    (λ i. (sym p i, sym q i, sym r i, sym t i, sym u i, sym v i, sym w i, sym x i))
    (grown setup market published staged h rows counts published_end sealed writing waiting e s fits)

-- and it publishes nothing
pub still_shown : (setup : Setup) (market : Market) (published : blog.Entries Entry) (staged : List (List ℕ)) (h : List Entry) (rows : RowList) (counts : List ℕ) (published_end sealed : Mark) (writing waiting : List ℕ) (rs : List Reply)
    → AreInStep setup market published staged h rows counts published_end sealed writing waiting → shown counts (with_replies rows rs) ≡ shown counts rows
still_shown setup market published staged h rows counts published_end sealed writing waiting rs s =
    shown_same counts rows (with_replies rows rs) (length-with_replies rows rs)
    (λ p l.
    ap (take (slice_index counts p)) (row_with_replies rows rs p l)
    ∙ take-append-le (slice_index counts p) (row_of rows p) (replies_spelled (replies_among p rs))
    (omega (arith, s.published_replies p (omega (arith, s.sized_rows)), fewer_replies setup p published_end.entries h, ap (λ (r : List (List ℕ)). length r) (s.replies p (omega (arith, s.sized_rows))))))

-- The sealed entries are published.

-- the messages of the sealed entries are the first ones that are staged
pub writing_staged : (setup : Setup) (published : blog.Entries Entry) (staged : List (List ℕ)) (h : List Entry) (published_end sealed : Mark) → published_end.entries ≤ sealed.entries
    → published ≡ ledger setup (take published_end.entries h) → blog.feed published ++ staged ≡ blog.feed (ledger setup h)
    → blog.feed (drop published_end.entries (take sealed.entries (ledger setup h))) ++ blog.feed (drop sealed.entries (ledger setup h)) ≡ staged
writing_staged setup published staged h published_end sealed order is all =
    let whole = ledger setup h in
    let between = drop published_end.entries (take sealed.entries whole) in
    let left = drop sealed.entries whole in
    let front : published ≡ take published_end.entries whole = is ∙ ledger_take setup published_end.entries h in
    let parts : blog.feed published ++ (blog.feed between ++ blog.feed left) ≡ blog.feed whole =
    sym (append_assoc (blog.feed published) (blog.feed between) (blog.feed left))
    ∙ ap (λ (l : List (List ℕ)). l ++ blog.feed left) (sym (feed-append published between) ∙ ap blog.feed (ap (λ (k : blog.Entries Entry). k ++ between) front ∙ take_between whole published_end.entries sealed.entries order))
    ∙ sym (feed-append (take sealed.entries whole) left)
    ∙ ap blog.feed (take-append-drop sealed.entries whole) in
    same_rest (blog.feed published) (blog.feed between ++ blog.feed left) staged (parts ∙ sym all)

pub now_published : (setup : Setup) (published : blog.Entries Entry) (h : List Entry) (published_end sealed : Mark) → published_end.entries ≤ sealed.entries → published ≡ ledger setup (take published_end.entries h)
    → published ++ drop published_end.entries (take sealed.entries (ledger setup h)) ≡ ledger setup (take sealed.entries h)
now_published setup published h published_end sealed order is =
    ap (λ (k : blog.Entries Entry). k ++ drop published_end.entries (take sealed.entries (ledger setup h))) (is ∙ ledger_take setup published_end.entries h)
    ∙ take_between (ledger setup h) published_end.entries sealed.entries order
    ∙ sym (ledger_take setup sealed.entries h)

-- and the others stay staged
pub still_staged : (setup : Setup) (h : List Entry) (n : ℕ) → blog.feed (ledger setup (take n h)) ++ blog.feed (drop n (ledger setup h)) ≡ blog.feed (ledger setup h)
still_staged setup h n =
    let whole = ledger setup h in
    ap (λ (k : blog.Entries Entry). blog.feed k ++ blog.feed (drop n whole)) (ledger_take setup n h)
    ∙ sym (feed-append (take n whole) (drop n whole))
    ∙ ap blog.feed (take-append-drop n whole)

-- the number of these messages
pub writing_count : (setup : Setup) (h : List Entry) (published_end sealed : Mark) → published_end.entries ≤ sealed.entries → IsMark setup h published_end → IsMark setup h sealed
    → sealed.messages ≡ published_end.messages + length (blog.feed (drop published_end.entries (take sealed.entries (ledger setup h))))
writing_count setup h published_end sealed order t s =
    let between = drop published_end.entries (take sealed.entries (ledger setup h)) in
    let front = ledger setup (take published_end.entries h) in
    let all : front ++ between ≡ ledger setup (take sealed.entries h) = now_published setup front h published_end sealed order refl in
    omega (arith, t.messages, s.messages, sym (ap (λ (k : blog.Entries Entry). length (blog.feed k)) all), ap (λ (l : List (List ℕ)). length l) (feed-append front between), length-append (blog.feed front) (blog.feed between))
