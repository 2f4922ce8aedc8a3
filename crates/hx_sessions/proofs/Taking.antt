-- How packets are acted on.
use Rattle.std.proofs.Common.{◌≡◌, ℕ, ◌+◌, ◌<◌, ◌≤◌, zero, suc, List, [], ◌∷◌, ◌++◌, length, map, get_or, take, drop, Option, Some, None, Result, Ok, Err, refl, sym, ap, ◌∙◌, subst, inl, inr, arith, append_assoc, append-nil, take-append-drop}
use Rattle.std.specs.Io.KnownBytes.{Consumes, Keeps, IsAtEnd}
use Rattle.hx_soup.specs.Framers.{Takes as Gives, StopsAt}
use Rattle.std.proofs.KnownBytes.{Consumes-trans, Consumes-nil, Consumes-kept}
use Rattle.std.proofs.lemmas.List.Elements.{All-append}
use Rattle.std.proofs.lemmas.List.{drop_more, drop_all, map-append}
use Rattle.std.proofs.lemmas.Option.{same_Some}
use mathlib.Core.List.{IsPrefix}
use Rattle.hx_soup.specs.declared.packet.SoupPacket.{SoupPacket}
use Rattle.hx_soup.specs.Packets.{IsPacket, Cuts, HasFault}
use Rattle.hx_soup.proofs.Pieces.{whole_join}
use Rattle.hx_sessions.specs.Intakes.{later_action}
use Rattle.hx_sessions.specs.declared.intake.Action.{Action}
use Rattle.hx_sessions.specs.declared.intake.Action.TheVariants as action
use Rattle.hx_rules.specs.declared.event.Event.{Event}
use Rattle.hx_rules.specs.declared.event.Event.TheVariants.{Message}
use Rattle.hx_engine.specs.Passes.{placed}
use Rattle.hx_sessions.specs.Asked.{HasLogout, asked, asked_by, AreMessages, SendsOn, SendsSome, Submits, IsStream}
use Rattle.hx_sessions.specs.declared.ending.Ended.TheVariants as ended
use Rattle.hx_sessions.specs.declared.ending.Fault.{Fault}
use Rattle.hx_sessions.specs.declared.ending.Fault.TheVariants as fault
use Rattle.hx_sessions.specs.declared.ending.Stop.{Stop}
use Rattle.hx_sessions.specs.declared.ending.Stop.TheVariants as stop
use Rattle.hx_sessions.specs.Workers.{Acting, Closed, Cut, ActedUntil, AsksUntil, Gathers, Receiving, Received, Why, Takes, TakesMore, Acted}
use Rattle.hx_units.proofs.Prefixes.{prefix_trans}

-- ---- what was sent

messages-append : (member : ℕ) (xs ys : List Event) (ts us : List (List ℕ)) → AreMessages member xs ts → AreMessages member ys us → AreMessages member (xs ++ ys) (ts ++ us)
messages-append member [] ys [] us a b = b
messages-append member [] ys (t ∷ ts) us a b = absurd a
messages-append member (x ∷ xs) ys [] us a b = absurd a
messages-append member (x ∷ xs) ys (t ∷ ts) us (time, is, a) b = (time, is, messages-append member xs ys ts us a b)

messages-take : (member n : ℕ) (xs : List Event) (ts : List (List ℕ)) → AreMessages member xs ts → AreMessages member (take n xs) (take n ts)
messages-take member zero xs ts a = tt
messages-take member (suc n) [] [] a = tt
messages-take member (suc n) [] (t ∷ ts) a = absurd a
messages-take member (suc n) (x ∷ xs) [] a = absurd a
messages-take member (suc n) (x ∷ xs) (t ∷ ts) (time, is, a) = (time, is, messages-take member n xs ts a)

-- one message more
pub messages_more : (member time : ℕ) (text : List ℕ) (xs ys : List Event) (ts : List (List ℕ)) → AreMessages member xs ts → ys ≡ xs ++ Message member time text ∷ [] → AreMessages member ys (ts ++ text ∷ [])
messages_more member time text xs ys ts a is = subst (λ l. AreMessages member l (ts ++ text ∷ [])) (sym is) (messages-append member xs (Message member time text ∷ []) ts (text ∷ []) a (time, refl, tt))

events_of_placed : (n : ℕ) (events : List Event) → map (λ (x : ℕ × Event). x.1) (placed n events) ≡ events
events_of_placed n [] = refl
events_of_placed n (e ∷ events) = ap (λ l. e ∷ l) (events_of_placed (n + 1) events)

-- nothing was sent
pub sends_none : (sent : List (ℕ × Event)) → SendsOn sent sent []
sends_none sent = record { more = []; sent = sym (append-nil sent); are = refl }

pub sends_placed : (old new : List (ℕ × Event)) (n : ℕ) (events : List Event) → new ≡ old ++ placed n events → SendsOn old new events
sends_placed old new n events is = record { more = placed n events; sent = is; are = events_of_placed n events }

pub sends_join : (a b c : List (ℕ × Event)) (xs ys : List Event) → SendsOn a b xs → SendsOn b c ys → SendsOn a c (xs ++ ys)
sends_join a b c xs ys s t = record {
  more = s.more ++ t.more;
  sent = t.sent ∙ (ap (λ l. l ++ t.more) s.sent ∙ append_assoc a s.more t.more);
  are = map-append (λ x. x.1) s.more t.more ∙ (ap (λ l. l ++ map (λ x. x.1) t.more) s.are ∙ ap (λ l. xs ++ l) t.are);
}

pub submits_none : (member : ℕ) (sent : List (ℕ × Event)) → Submits member sent sent []
submits_none member sent = record { events = []; sends = sends_none sent; are = tt }

pub submits_join : (member : ℕ) (a b c : List (ℕ × Event)) (ts us : List (List ℕ)) → Submits member a b ts → Submits member b c us → Submits member a c (ts ++ us)
submits_join member a b c ts us s t = record {
  events = s.events ++ t.events;
  sends = sends_join a b c s.events t.events s.sends t.sends;
  are = messages-append member s.events t.events ts us s.are t.are;
}

-- ---- acting on packets one by one

-- what was submitted for the packets before those that are left
pub record Upto (packets rest : List SoupPacket) (done : List (List ℕ)) : Type 0 where
  pub asks : (later : List SoupPacket) → asked (packets ++ later) ≡ done ++ asked (rest ++ later)

step : (packets rest others : List SoupPacket) (done : List (List ℕ)) (p : SoupPacket) (a : Action) → Upto packets rest done → rest ≡ p ∷ others → later_action p ≡ a
    → (later : List SoupPacket) → asked (packets ++ later) ≡ done ++ asked_by a p.payload.items (asked (others ++ later))
step packets rest others done p a u is acts later =
    u.asks later ∙ ap (λ l. done ++ asked (l ++ later)) is ∙ ap (λ x. done ++ asked_by x p.payload.items (asked (others ++ later))) acts

pub upto_submit : (packets rest others : List SoupPacket) (done : List (List ℕ)) (p : SoupPacket) → Upto packets rest done → rest ≡ p ∷ others → later_action p ≡ action.Submit → Upto packets others (done ++ p.payload.items ∷ [])
upto_submit packets rest others done p u is acts =
    record { asks = λ later. step packets rest others done p action.Submit u is acts later ∙ sym (append_assoc done (p.payload.items ∷ []) (asked (others ++ later))) }

pub upto_ignore : (packets rest others : List SoupPacket) (done : List (List ℕ)) (p : SoupPacket) → Upto packets rest done → rest ≡ p ∷ others → later_action p ≡ action.Ignore → Upto packets others done
upto_ignore packets rest others done p u is acts = record { asks = λ later. step packets rest others done p action.Ignore u is acts later }

has_after : (ps qs : List SoupPacket) → HasLogout qs → HasLogout (ps ++ qs)
has_after ps qs h = record {
  before = ps ++ h.before;
  logout = h.logout;
  after = h.after;
  splits = ap (λ l. ps ++ l) h.splits ∙ sym (append_assoc ps h.before (h.logout ∷ h.after));
  is = h.is;
}

pub upto_cut : (packets rest : List SoupPacket) (done : List (List ℕ)) → Upto packets rest done → Cut packets done
upto_cut packets rest done u = record { asks = λ later. (asked (rest ++ later), sym (u.asks later)) }

-- ---- acting on packets all at once

pub acting_cut : (ps : List SoupPacket) (ds : List (List ℕ)) → Acting ps ds → Cut ps ds
acting_cut ps ds a = record { asks = λ later. (asked later, sym (a.asks later)) }

closed_cut : (packets : List SoupPacket) (texts : List (List ℕ)) → Closed packets texts → Cut packets texts
closed_cut packets texts c = record { asks = λ later. ([], append-nil texts ∙ sym (c.asks later)) }

until_cut : (packets : List SoupPacket) (texts : List (List ℕ)) (stop : Option Stop) → AsksUntil packets texts stop → Cut packets texts
until_cut packets texts None a = acting_cut packets texts a
until_cut packets texts (Some stop.PeerStopped) a = absurd a
until_cut packets texts (Some (stop.Ended e)) (is, has, c) = closed_cut packets texts c
until_cut packets texts (Some (stop.Faulted f)) (inl (is, c)) = closed_cut packets texts c
until_cut packets texts (Some (stop.Faulted f)) (inr c) = c

cut_take : (packets : List SoupPacket) (texts : List (List ℕ)) (n : ℕ) → Cut packets texts → Cut packets (take n texts)
cut_take packets texts n c = record {
  asks = λ later. prefix_trans (take n texts) texts (asked (packets ++ later)) (drop n texts, take-append-drop n texts) (c.asks later);
}

-- a submit was refused
pub acted_some : (member : ℕ) (old new : List (ℕ × Event)) (packets : List SoupPacket) (events : List Event) (w : Option Stop) (f : Fault) → Gathers member packets events w → SendsSome old new events → Acted member old new packets (Err (stop.Faulted f))
acted_some member old new packets events w f (texts, are, asks) (n, s) =
    (take n texts, record { events = take n events; sends = s; are = messages-take member n events texts are }, inr (cut_take packets texts n (until_cut packets texts w asks)))

-- ---- pieces of a stream

pub cuts_join : (stream x rest tail : List ℕ) (ps qs : List SoupPacket) → Cuts stream ps rest → Cuts (rest ++ x) qs tail → Cuts (stream ++ x) (ps ++ qs) tail
cuts_join stream x rest tail ps qs c d = record {
  whole = whole_join stream x rest tail ps qs c.whole d.whole;
  each = All-append IsPacket ps qs c.each d.each;
  unfinished = d.unfinished;
}

fault_join : (stream x rest : List ℕ) (ps qs : List SoupPacket) (bad : ℕ) → Cuts stream ps rest → HasFault (rest ++ x) qs bad → HasFault (stream ++ x) (ps ++ qs) bad
fault_join stream x rest ps qs bad c f = record {
  high = f.high;
  low = f.low;
  more = f.more;
  whole = whole_join stream x rest (f.high ∷ f.low ∷ f.more) ps qs c.whole f.whole;
  each = All-append IsPacket ps qs c.each f.each;
  is = f.is;
  is_bad = f.is_bad;
}

pub stream_join : (stream x rest : List ℕ) (ps qs : List SoupPacket) → Cuts stream ps rest → IsStream (rest ++ x) qs → IsStream (stream ++ x) (ps ++ qs)
stream_join stream x rest ps qs c (inl (tail, d)) = inl (tail, cuts_join stream x rest tail ps qs c d)
stream_join stream x rest ps qs c (inr (bad, f)) = inr (bad, fault_join stream x rest ps qs bad c f)

pub acting_join : (ps qs : List SoupPacket) (ds es : List (List ℕ)) → Acting ps ds → Acting qs es → Acting (ps ++ qs) (ds ++ es)
acting_join ps qs ds es a b = record {
  asks = λ later.
      ap asked (append_assoc ps qs later) ∙ (a.asks (qs ++ later) ∙ (ap (λ l. ds ++ l) (b.asks later) ∙ sym (append_assoc ds es (asked later))));
}

pub acting_all : (ps : List SoupPacket) (ds : List (List ℕ)) → Acting ps ds → ds ≡ asked ps
acting_all ps ds a = sym (ap asked (sym (append-nil ps)) ∙ (a.asks [] ∙ append-nil ds))

closed_all : (ps qs : List SoupPacket) (ds es : List (List ℕ)) → Acting ps ds → Closed qs es → ds ++ es ≡ asked (ps ++ qs)
closed_all ps qs ds es a c = sym (a.asks qs ∙ ap (λ l. ds ++ l) (ap asked (sym (append-nil qs)) ∙ c.asks []))

cut_some : (ps qs : List SoupPacket) (ds es : List (List ℕ)) → Acting ps ds → Cut qs es → IsPrefix (ds ++ es) (asked (ps ++ qs))
cut_some ps qs ds es a c =
    let p : IsPrefix es (asked qs) = subst (λ l. IsPrefix es (asked l)) (append-nil qs) (c.asks []) in
    (p.0, append_assoc ds es p.0 ∙ (ap (λ l. ds ++ l) p.1 ∙ sym (a.asks qs)))

pub why_join : (left : Option (List ℕ)) (ps qs : List SoupPacket) (ds es : List (List ℕ)) (s : Stop) → Acting ps ds → ActedUntil qs es s → Why left (ps ++ qs) (ds ++ es) s
why_join left ps qs ds es stop.PeerStopped a u = absurd u
why_join left ps qs ds es (stop.Ended ended.Logout) a (is, has, c) = (closed_all ps qs ds es a c, has_after ps qs has)
why_join left ps qs ds es (stop.Ended ended.ReaderEnd) a (is, has, c) = absurd (cc is)
why_join left ps qs ds es (stop.Ended ended.DayEnd) a (is, has, c) = absurd (cc is)
why_join left ps qs ds es (stop.Faulted f) a (inl (is, c)) = ([], append-nil (ds ++ es) ∙ closed_all ps qs ds es a c)
why_join left ps qs ds es (stop.Faulted f) a (inr c) = cut_some ps qs ds es a c

pub why_all : (left : Option (List ℕ)) (f : Fault) (ps : List SoupPacket) (ds : List (List ℕ)) → Acting ps ds → Why left ps ds (stop.Faulted f)
why_all left f ps ds a = ([], append-nil ds ∙ acting_all ps ds a)

-- ---- all that was received

-- nothing was read yet
pub receiving_none : (member : ℕ) (a : Option (List ℕ)) (sent : List (ℕ × Event)) → Receiving member a a (Some []) sent sent
receiving_none member a sent = record {
  bytes = [];
  packets = [];
  rest = [];
  done = [];
  read = Consumes-nil a;
  retained = refl;
  cuts = record { whole = refl; each = λ k d l. absurd (omega arith); unfinished = tt };
  submits = submits_none member sent;
  acting = record { asks = λ later. refl };
}

pub receiving_more : (member : ℕ) (a b c f g : Option (List ℕ)) (piece : List ℕ) (s t u : List (ℕ × Event)) (x : Unit {0}) → Receiving member a b f s t → Consumes b c piece → Takes member f g piece t u (Ok x) → Receiving member a c g s u
receiving_more member a b c f g piece s t u x r read (retained, rest, packets, done, was, is, cuts, submits, acting) =
    let same : retained ≡ r.rest = same_Some retained r.rest (sym was ∙ r.retained) in record {
      bytes = r.bytes ++ piece;
      packets = r.packets ++ packets;
      rest = rest;
      done = r.done ++ done;
      read = Consumes-trans a b c r.bytes piece r.read read;
      retained = is;
      cuts = cuts_join r.bytes piece r.rest rest r.packets packets r.cuts (subst (λ k. Cuts (k ++ piece) packets rest) same cuts);
      submits = submits_join member s t u r.done done r.submits submits;
      acting = acting_join r.packets packets r.done done r.acting acting;
    }

-- it stops before a read
pub received_here : (member : ℕ) (a b f : Option (List ℕ)) (s t : List (ℕ × Event)) (w : Stop) → Receiving member a b f s t → ((ps : List SoupPacket) (ds : List (List ℕ)) → Acting ps ds → Why b ps ds w) → Received member a b s t w
received_here member a b f s t w r why = record {
  bytes = r.bytes;
  lost = [];
  packets = r.packets;
  done = r.done;
  read = subst (Consumes a b) (sym (append-nil r.bytes)) r.read;
  none_lost = inl refl;
  stream = inl (r.rest, r.cuts);
  submits = r.submits;
  why = why r.packets r.done r.acting;
}

pub received_stop : (member : ℕ) (a b c f g : Option (List ℕ)) (piece : List ℕ) (s t u : List (ℕ × Event)) (w : Stop) → Receiving member a b f s t → Consumes b c piece → Takes member f g piece t u (Err w) → Received member a c s u w
received_stop member a b c f g piece s t u w r read (retained, was, inl (packets, done, stream, submits, until)) =
    let same : retained ≡ r.rest = same_Some retained r.rest (sym was ∙ r.retained) in record {
      bytes = r.bytes ++ piece;
      lost = [];
      packets = r.packets ++ packets;
      done = r.done ++ done;
      read = subst (Consumes a c) (sym (append-nil (r.bytes ++ piece))) (Consumes-trans a b c r.bytes piece r.read read);
      none_lost = inl refl;
      stream = stream_join r.bytes piece r.rest r.packets packets r.cuts (subst (λ k. IsStream (k ++ piece) packets) same stream);
      submits = submits_join member s t u r.done done r.submits submits;
      why = why_join c r.packets packets r.done done w r.acting until;
    }
received_stop member a b c f g piece s t u w r read (retained, was, inr (is, none)) = record {
  bytes = r.bytes;
  lost = piece;
  packets = r.packets;
  done = r.done;
  read = Consumes-trans a b c r.bytes piece r.read read;
  none_lost = inr is;
  stream = inl (r.rest, r.cuts);
  submits = subst (λ l. Submits member s l r.done) (sym none) r.submits;
  why = subst (Why c r.packets r.done) (sym is) (why_all c fault.NoMemory r.packets r.done r.acting);
}

-- a read that failed leaves the stream
pub receiving_retained : (member : ℕ) (a b c f : Option (List ℕ)) (s t : List (ℕ × Event)) → Receiving member a b f s t → Keeps b c → Receiving member a c f s t
receiving_retained member a b c f s t r k = record {
  bytes = r.bytes;
  packets = r.packets;
  rest = r.rest;
  done = r.done;
  read = Consumes-kept a b c r.bytes r.read k;
  retained = r.retained;
  cuts = r.cuts;
  submits = r.submits;
  acting = r.acting;
}

-- the input has ended
pub received_end : (member : ℕ) (a b c f : Option (List ℕ)) (none : List ℕ) (s t : List (ℕ × Event)) → Receiving member a b f s t → none ≡ [] → Consumes b c none → IsAtEnd c → Received member a c s t (stop.Ended ended.ReaderEnd)
received_end member a b c f none s t r e read end = record {
  bytes = r.bytes;
  lost = [];
  packets = r.packets;
  done = r.done;
  read = subst (λ l. Consumes a c (r.bytes ++ l)) e (Consumes-trans a b c r.bytes none r.read read);
  none_lost = inl refl;
  stream = inl (r.rest, r.cuts);
  submits = r.submits;
  why = (acting_all r.packets r.done r.acting, end);
}

-- a piece was read, and what it brought was taken in
pub more_taken : (member : ℕ) (b c f g : Option (List ℕ)) (piece : List ℕ) (t u : List (ℕ × Event)) (r : Result (Unit {0}) Stop) → Consumes b c piece → Takes member f g piece t u r → TakesMore member b c f g t u r
more_taken member b c f g piece t u (Ok x) read takes = λ a s so_far. receiving_more member a b c f g piece s t u x so_far read takes
more_taken member b c f g piece t u (Err w) read takes = λ a s so_far. received_stop member a b c f g piece s t u w so_far read takes

-- packets, and what is left after them
pub takes_ok : (member : ℕ) (old new : Option (List ℕ)) (piece : List ℕ) (before after : List (ℕ × Event)) (packets : List SoupPacket) (r : Result (Unit {0}) Stop) → Gives old new piece packets → Acted member before after packets r → Takes member old new piece before after r
takes_ok member old new piece before after packets (Ok u) t (done, submits, acting) = (t.retained, t.rest, packets, done, t.was, t.is, t.cuts, submits, acting)
takes_ok member old new piece before after packets (Err s) t (done, submits, until) = (t.retained, t.was, inl (packets, done, inl (t.rest, t.cuts), submits, until))

pub takes_fault : (member : ℕ) (old new : Option (List ℕ)) (piece : List ℕ) (before after : List (ℕ × Event)) (packets : List SoupPacket) (bad : ℕ) (s : Stop) (done : List (List ℕ)) → StopsAt old new piece packets bad → Submits member before after done → ActedUntil packets done s
    → Takes member old new piece before after (Err s)
takes_fault member old new piece before after packets bad s done f submits until = (f.retained, f.was, inl (packets, done, inr (bad, f.fault), submits, until))
