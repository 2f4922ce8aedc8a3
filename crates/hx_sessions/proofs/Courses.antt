-- How the parts of a session make one.
use Rattle.std.proofs.Common.{◌≡◌, ◌⊎◌, ℕ, ◌-◌, List, [], ◌++◌, take, drop, take-append-drop, length-take, Bool, true, false, Option, Result, Ok, Err, refl, sym, ap, ◌∙◌, subst, inl, inr, arith, append_assoc, append-nil}
use Rattle.std.specs.List.{concat}
use Rattle.std.specs.Io.KnownBytes.{Appends, Keeps}
use Rattle.std.proofs.KnownBytes.{Appends-trans, Appends-kept, Consumes-nil, Keeps-refl, Keeps-trans}
use mathlib.Core.List.{IsPrefix}
use Rattle.hx_soup.specs.declared.packet.SoupPacket.{SoupPacket}
use Rattle.hx_members.specs.Setups.{Setup}
use Rattle.hx_blog.specs.Feed.{Entries}
use Rattle.hx_desk.specs.declared.entry.Entry.{Entry}
use Rattle.hx_desk.specs.Known.{known_replies}
use Rattle.hx_sessions.specs.Deliveries.{Delivery}
use Rattle.hx_sessions.specs.declared.ending.Ended.{Ended}
use Rattle.hx_sessions.specs.declared.ending.Ended.TheVariants as ended
use Rattle.hx_sessions.specs.declared.ending.Fault.{Fault}
use Rattle.hx_sessions.specs.declared.ending.Fault.TheVariants as fault
use Rattle.hx_sessions.specs.declared.ending.Stop.{Stop}
use Rattle.hx_sessions.specs.declared.ending.Stop.TheVariants as stop
use Rattle.hx_sessions.specs.Asked.{HasLogout, asked, CarriesOn}
use Rattle.hx_units.specs.Writing.{Writes}
use Rattle.hx_units.proofs.Fronts.{writes_retained}
use Rattle.hx_sessions.specs.Frames.{day_over, Delivers, Sent, SentSome}
use Rattle.hx_sessions.specs.Workers.{Received, Why, SentUntil, both_of}
use Rattle.hx_sessions.specs.Logins.{NoLogin}
use Rattle.hx_sessions.specs.declared.copies.DropCopy.{DropCopy}
use Rattle.hx_sessions.specs.Copies.{read_by, may_send}
use Rattle.hx_sessions.specs.Served.{Side, Brings, Wrote, WroteSome, EndsAs, Converses, acceptance, rejection, Admits, BreaksOff, Dismisses, Went, Serves, SessionsGoOn}
use Rattle.hx_sessions.specs.declared.beginning.Start.{Start}
use Rattle.hx_engine.specs.Passes.{PassState}
use Rattle.hx_blog.specs.Ends.{ReaderState}
use Rattle.hx_sessions.proofs.Taking.{submits_none}
use Rattle.hx_sessions.proofs.Going.{until_join, sent_join, known_grows}
use Rattle.hx_sessions.proofs.Logging.{opens_within}
use Rattle.hx_sessions.proofs.Passes.{carries_none, carries_more, carries_true}
use Rattle.hx_units.proofs.Prefixes.{prefix_self, prefix_trans}

-- ---- what was written

-- the end of the session has not gone out
not_yet : (past : Bool) (d : Delivery) → d.over ≡ false → d.over ≡ true → past ≡ true
not_yet past d live e = absurd (cc (live, e))

brings_of : (past : Bool) (first : ℕ) (replies rest : List (List ℕ)) (d : Delivery) (frames : List (List ℕ)) → (d.over ≡ true → past ≡ true) → Delivers first replies rest d frames → Brings past first replies rest d.over frames
brings_of past first replies rest d frames by s = record { before = s.before; rows = s.rows; splits = s.splits; starts = s.starts; are = s.are; ends = λ e. (s.ends e, by e) }

wrote_of : (past : Bool) (first : ℕ) (replies rest : List (List ℕ)) (d : Delivery) (over : Bool) (a b : Option (List ℕ)) → d.over ≡ over → (d.over ≡ true → past ≡ true) → Sent first replies rest d a b → Wrote past [] first replies rest over a b
wrote_of past first replies rest d over a b is by s = record {
  frames = s.frames;
  brings = subst (λ o. Brings past first replies rest o s.frames) is (brings_of past first replies rest d s.frames by s.delivers);
  wrote = s.wrote;
}

some_of : (past : Bool) (first : ℕ) (replies rest : List (List ℕ)) (d : Delivery) (a b : Option (List ℕ)) → (d.over ≡ true → past ≡ true) → Sent first replies rest d a b → WroteSome past [] first replies a b
some_of past first replies rest d a b by s = record {
  rest = rest;
  over = d.over;
  frames = s.frames;
  brings = brings_of past first replies rest d s.frames by s.delivers;
  unwritten = [];
  wrote = record { front = concat s.frames; bytes_are = sym (append-nil (concat s.frames)); wrote = s.wrote };
}

some_of_cut : (past : Bool) (first : ℕ) (replies rest : List (List ℕ)) (d : Delivery) (a b : Option (List ℕ)) → (d.over ≡ true → past ≡ true) → SentSome first replies rest d a b → WroteSome past [] first replies a b
some_of_cut past first replies rest d a b by s = record {
  rest = rest;
  over = d.over;
  frames = s.frames;
  brings = brings_of past first replies rest d s.frames by s.delivers;
  unwritten = s.wrote.0;
  wrote = s.wrote.1;
}

until_some : (past : Bool) (first : ℕ) (replies : List (List ℕ)) (d : Delivery) (a b : Option (List ℕ)) (s : Stop) → SentUntil past first replies d a b s → WroteSome past [] first replies a b
until_some past first replies d a b stop.PeerStopped (is, rest, t) = some_of past first replies rest d a b (not_yet past d is) t
until_some past first replies d a b (stop.Ended e) (is, over, by, t) = some_of past first replies [] d a b (λ o. by) t
until_some past first replies d a b (stop.Faulted f) (rest, inl (t, is)) = some_of past first replies rest d a b (not_yet past d is) t
until_some past first replies d a b (stop.Faulted f) (rest, inr (is, by, t)) = some_of_cut past first replies rest d a b by t

-- ---- how both workers ended

why_some : (left : Option (List ℕ)) (packets : List SoupPacket) (done : List (List ℕ)) (s : Stop) → Why left packets done s → IsPrefix done (asked packets)
why_some left packets done stop.PeerStopped w = ([], append-nil done ∙ w)
why_some left packets done (stop.Ended ended.Logout) w = ([], append-nil done ∙ w.0)
why_some left packets done (stop.Ended ended.ReaderEnd) w = ([], append-nil done ∙ w.0)
why_some left packets done (stop.Ended ended.DayEnd) w = absurd w
why_some left packets done (stop.Faulted f) w = w

-- by how both ended, but for a logout
pub ends_as : (past : Bool) (first : ℕ) (replies : List (List ℕ)) (packets : List SoupPacket) (done : List (List ℕ)) (left : Option (List ℕ)) (d : Delivery) (a b : Option (List ℕ)) (inn out : Stop) (r : Result Ended Fault) → Why left packets done inn → SentUntil past first replies d a b out
    → both_of inn out ≡ r → (r ≡ Ok ended.Logout → ⊥) → EndsAs past [] first replies packets done left a b r
ends_as past first replies packets done left d a b (stop.Faulted f) out r w s is other =
    subst (EndsAs past [] first replies packets done left a b) is (why_some left packets done (stop.Faulted f) w, until_some past first replies d a b out s)
ends_as past first replies packets done left d a b (stop.Ended e) (stop.Faulted f) r w s is other =
    subst (EndsAs past [] first replies packets done left a b) is (why_some left packets done (stop.Ended e) w, until_some past first replies d a b (stop.Faulted f) s)
ends_as past first replies packets done left d a b (stop.Ended ended.Logout) (stop.Ended ended.DayEnd) r w (e, over, by, t) is other = subst (EndsAs past [] first replies packets done left a b) is (by, w.0, wrote_of past first replies [] d true a b over (λ o. by) t)
ends_as past first replies packets done left d a b (stop.Ended ended.ReaderEnd) (stop.Ended ended.DayEnd) r w (e, over, by, t) is other = subst (EndsAs past [] first replies packets done left a b) is (by, w.0, wrote_of past first replies [] d true a b over (λ o. by) t)
ends_as past first replies packets done left d a b (stop.Ended ended.DayEnd) (stop.Ended ended.DayEnd) r w (e, over, by, t) is other = absurd w
ends_as past first replies packets done left d a b (stop.Ended x) (stop.Ended ended.Logout) r w (e, over, by, t) is other = absurd (cc e)
ends_as past first replies packets done left d a b (stop.Ended x) (stop.Ended ended.ReaderEnd) r w (e, over, by, t) is other = absurd (cc e)
ends_as past first replies packets done left d a b (stop.Ended ended.Logout) stop.PeerStopped r w s is other = absurd (other (sym is))
ends_as past first replies packets done left d a b (stop.Ended ended.ReaderEnd) stop.PeerStopped r w (over, rest, t) is other = subst (EndsAs past [] first replies packets done left a b) is (w.0, w.1, rest, wrote_of past first replies rest d false a b over (not_yet past d over) t)
ends_as past first replies packets done left d a b (stop.Ended ended.DayEnd) stop.PeerStopped r w s is other = absurd w
ends_as past first replies packets done left d a b stop.PeerStopped (stop.Faulted f) r w s is other =
    subst (EndsAs past [] first replies packets done left a b) is (why_some left packets done stop.PeerStopped w, until_some past first replies d a b (stop.Faulted f) s)
ends_as past first replies packets done left d a b stop.PeerStopped (stop.Ended ended.DayEnd) r w (e, over, by, t) is other = subst (EndsAs past [] first replies packets done left a b) is (by, w, wrote_of past first replies [] d true a b over (λ o. by) t)
ends_as past first replies packets done left d a b stop.PeerStopped (stop.Ended ended.Logout) r w (e, over, by, t) is other = absurd (cc e)
ends_as past first replies packets done left d a b stop.PeerStopped (stop.Ended ended.ReaderEnd) r w (e, over, by, t) is other = absurd (cc e)
ends_as past first replies packets done left d a b stop.PeerStopped stop.PeerStopped r w s is other =
    subst (EndsAs past [] first replies packets done left a b) is (why_some left packets done stop.PeerStopped w, until_some past first replies d a b stop.PeerStopped s)

lost_of : (inn out : Stop) (r : Result Ended Fault) (lost : List ℕ) → both_of inn out ≡ r → (lost ≡ []) ⊎ (inn ≡ stop.Faulted fault.NoMemory) → (lost ≡ []) ⊎ (r ≡ Err fault.NoMemory)
lost_of inn out r lost is (inl none) = inl none
lost_of inn out r lost is (inr n) = inr (sym is ∙ ap (λ s. both_of s out) n)

-- both workers at once, if the session did not end by a logout
pub converses : (setup : Setup) (member first : ℕ) (old new : Side) (d : Delivery) (inn out : Stop) (r : Result Ended Fault) → Received member old.input new.input old.pass.sent new.pass.sent inn
    → SentUntil (day_over setup new.reader.known) first (known_replies setup member new.reader.known) d old.output new.output out → both_of inn out ≡ r → (r ≡ Ok ended.Logout → ⊥) → Converses setup member first [] old new r
converses setup member first old new d inn out r got sent is other = record {
  bytes = got.bytes;
  lost = got.lost;
  packets = got.packets;
  done = got.done;
  read = got.read;
  none_lost = lost_of inn out r got.lost is got.none_lost;
  stream = got.stream;
  submits = got.submits;
  knows = λ e. absurd (other e);
  ends = ends_as (day_over setup new.reader.known) first (known_replies setup member new.reader.known) got.packets got.done new.input d old.output new.output inn out r got.why sent is other;
}

-- ---- after a logout

-- what is known if both ended so
pub record LogsOut (first : ℕ) (replies : List (List ℕ)) (packets : List SoupPacket) (done : List (List ℕ)) (d : Delivery) (a b : Option (List ℕ)) : Type 0 where
  pub all : done ≡ asked packets
  pub has : HasLogout packets
  pub live : d.over ≡ false
  pub rest : List (List ℕ)
  pub sent : Sent first replies rest d a b

pub logs_out : (past : Bool) (first : ℕ) (replies : List (List ℕ)) (packets : List SoupPacket) (done : List (List ℕ)) (left : Option (List ℕ)) (d : Delivery) (a b : Option (List ℕ)) (inn out : Stop) → Why left packets done inn → SentUntil past first replies d a b out
    → both_of inn out ≡ Ok ended.Logout → LogsOut first replies packets done d a b
logs_out past first replies packets done left d a b (stop.Faulted f) out w s is = absurd (cc is)
logs_out past first replies packets done left d a b (stop.Ended e) (stop.Faulted f) w s is = absurd (cc is)
logs_out past first replies packets done left d a b (stop.Ended e) (stop.Ended x) w (is_end, over, by, t) is = absurd (cc (is, is_end))
logs_out past first replies packets done left d a b (stop.Ended ended.Logout) stop.PeerStopped w (over, rest, t) is = record { all = w.0; has = w.1; live = over; rest = rest; sent = t }
logs_out past first replies packets done left d a b (stop.Ended ended.ReaderEnd) stop.PeerStopped w s is = absurd (cc is)
logs_out past first replies packets done left d a b (stop.Ended ended.DayEnd) stop.PeerStopped w s is = absurd (cc is)
logs_out past first replies packets done left d a b stop.PeerStopped (stop.Faulted f) w s is = absurd (cc is)
logs_out past first replies packets done left d a b stop.PeerStopped (stop.Ended x) w (is_end, over, by, t) is = absurd (cc (is, is_end))
logs_out past first replies packets done left d a b stop.PeerStopped stop.PeerStopped w s is = absurd (cc is)

none_lost_at : (inn out : Stop) (lost : List ℕ) → both_of inn out ≡ Ok ended.Logout → (lost ≡ []) ⊎ (inn ≡ stop.Faulted fault.NoMemory) → lost ≡ []
none_lost_at inn out lost is (inl none) = none
none_lost_at inn out lost is (inr n) = absurd (cc (sym is ∙ ap (λ s. both_of s out) n))

-- a session that goes on after a logout
pub converses_then : (setup : Setup) (member first : ℕ) (old new : Side) (middle : Option (List ℕ)) (known : Entries Entry) (d : Delivery) (inn out : Stop) (r : Result Ended Fault) → Received member old.input new.input old.pass.sent new.pass.sent inn
    → SentUntil (day_over setup known) first (known_replies setup member known) d old.output middle out → both_of inn out ≡ Ok ended.Logout → (r ≡ Ok ended.Logout → IsPrefix new.pass.known new.reader.known)
    → ((packets : List SoupPacket) (done : List (List ℕ)) → LogsOut first (known_replies setup member known) packets done d old.output middle → EndsAs (day_over setup new.reader.known) [] first (known_replies setup member new.reader.known) packets done new.input old.output new.output r)
    → Converses setup member first [] old new r
converses_then setup member first old new middle known d inn out r got sent is knows ends = record {
  bytes = got.bytes;
  lost = got.lost;
  packets = got.packets;
  done = got.done;
  read = got.read;
  none_lost = inl (none_lost_at inn out got.lost is got.none_lost);
  stream = got.stream;
  submits = got.submits;
  knows = knows;
  ends = ends got.packets got.done (logs_out (day_over setup known) first (known_replies setup member known) got.packets got.done new.input d old.output middle inn out got.why sent is);
}

pub after_all : (setup : Setup) (member first : ℕ) (known longer : Entries Entry) (d e : Delivery) (left a b c : Option (List ℕ)) → IsPrefix known longer → e.over ≡ false → Sent d.next (known_replies setup member longer) [] e b c
    → (packets : List SoupPacket) (done : List (List ℕ)) → LogsOut first (known_replies setup member known) packets done d a b → EndsAs (day_over setup longer) [] first (known_replies setup member longer) packets done left a c (Ok ended.Logout)
after_all setup member first known longer d e left a b c p live t packets done lo =
    (lo.all, lo.has, wrote_of (day_over setup longer) first (known_replies setup member longer) [] e false a c live (not_yet (day_over setup longer) e live) (sent_join first (known_replies setup member known) (known_replies setup member longer) lo.rest [] d e a b c (known_grows setup member known longer p) lo.sent lo.live t))

pub after_end : (setup : Setup) (member first : ℕ) (known longer : Entries Entry) (d e : Delivery) (left a b c : Option (List ℕ)) (x : Ended) → IsPrefix known longer → SentUntil (day_over setup longer) d.next (known_replies setup member longer) e b c (stop.Ended x)
    → (packets : List SoupPacket) (done : List (List ℕ)) → LogsOut first (known_replies setup member known) packets done d a b → EndsAs (day_over setup longer) [] first (known_replies setup member longer) packets done left a c (Ok x)
after_end setup member first known longer d e left a b c x p s packets done lo =
    let t = until_join setup member first known longer lo.rest d e a b c (stop.Ended x) p lo.sent lo.live s in
    subst (λ k. EndsAs (day_over setup longer) [] first (known_replies setup member longer) packets done left a c (Ok k)) (sym t.0) (t.2, lo.all, wrote_of (day_over setup longer) first (known_replies setup member longer) [] e true a c t.1 (λ o. t.2) t.3)

pub after_fault : (setup : Setup) (member first : ℕ) (known longer : Entries Entry) (d e : Delivery) (left a b c : Option (List ℕ)) (f : Fault) (s : Stop) → IsPrefix known longer → SentUntil (day_over setup longer) d.next (known_replies setup member longer) e b c s
    → (packets : List SoupPacket) (done : List (List ℕ)) → LogsOut first (known_replies setup member known) packets done d a b → EndsAs (day_over setup longer) [] first (known_replies setup member longer) packets done left a c (Err f)
after_fault setup member first known longer d e left a b c f s p sent packets done lo =
    (([], append-nil done ∙ lo.all), until_some (day_over setup longer) first (known_replies setup member longer) e a c s (until_join setup member first known longer lo.rest d e a b c s p lo.sent lo.live sent))

pub after_stop : (setup : Setup) (member first : ℕ) (known longer : Entries Entry) (d e : Delivery) (left a b c : Option (List ℕ)) (s : Stop) (r : Result Ended Fault) → both_of stop.PeerStopped s ≡ r → IsPrefix known longer → SentUntil (day_over setup longer) d.next (known_replies setup member longer) e b c s
    → (packets : List SoupPacket) (done : List (List ℕ)) → LogsOut first (known_replies setup member known) packets done d a b → EndsAs (day_over setup longer) [] first (known_replies setup member longer) packets done left a c r
after_stop setup member first known longer d e left a b c stop.PeerStopped r is p sent packets done lo =
    subst (EndsAs (day_over setup longer) [] first (known_replies setup member longer) packets done left a c) is (after_fault setup member first known longer d e left a b c fault.NoMemory stop.PeerStopped p sent packets done lo)
after_stop setup member first known longer d e left a b c (stop.Ended x) r is p sent packets done lo =
    subst (EndsAs (day_over setup longer) [] first (known_replies setup member longer) packets done left a c) is (after_end setup member first known longer d e left a b c x p sent packets done lo)
after_stop setup member first known longer d e left a b c (stop.Faulted f) r is p sent packets done lo =
    subst (EndsAs (day_over setup longer) [] first (known_replies setup member longer) packets done left a c) is (after_fault setup member first known longer d e left a b c f (stop.Faulted f) p sent packets done lo)

-- ---- the answer before it, and the output that stays

answered_wrote : (past : Bool) (answer : List ℕ) (first : ℕ) (replies rest : List (List ℕ)) (over : Bool) (a b c : Option (List ℕ)) → Appends a b answer → Wrote past [] first replies rest over b c → Wrote past answer first replies rest over a c
answered_wrote past answer first replies rest over a b c wrote w = record { frames = w.frames; brings = w.brings; wrote = Appends-trans a b c answer (concat w.frames) wrote w.wrote }

answered_some : (past : Bool) (answer : List ℕ) (first : ℕ) (replies : List (List ℕ)) (a b c : Option (List ℕ)) → Appends a b answer → WroteSome past [] first replies b c → WroteSome past answer first replies a c
answered_some past answer first replies a b c wrote w = record {
  rest = w.rest;
  over = w.over;
  frames = w.frames;
  brings = w.brings;
  unwritten = w.unwritten;
  wrote = record {
    front = answer ++ w.wrote.front;
    bytes_are = ap (λ l. answer ++ l) w.wrote.bytes_are ∙ sym (append_assoc answer w.wrote.front w.unwritten);
    wrote = Appends-trans a b c answer w.wrote.front wrote w.wrote.wrote;
  };
}

answered_end : (past : Bool) (answer : List ℕ) (first : ℕ) (replies : List (List ℕ)) (packets : List SoupPacket) (done : List (List ℕ)) (left a b c : Option (List ℕ)) (r : Result Ended Fault) → Appends a b answer
    → EndsAs past [] first replies packets done left b c r → EndsAs past answer first replies packets done left a c r
answered_end past answer first replies packets done left a b c (Ok ended.Logout) wrote e = (e.0, e.1, answered_wrote past answer first replies [] false a b c wrote e.2)
answered_end past answer first replies packets done left a b c (Ok ended.ReaderEnd) wrote e = (e.0, e.1, e.2, answered_wrote past answer first replies e.2 false a b c wrote e.3)
answered_end past answer first replies packets done left a b c (Ok ended.DayEnd) wrote e = (e.0, e.1, answered_wrote past answer first replies [] true a b c wrote e.2)
answered_end past answer first replies packets done left a b c (Err f) wrote e = (e.0, answered_some past answer first replies a b c wrote e.1)

pub answered : (setup : Setup) (member first next : ℕ) (answer : List ℕ) (input output out : Option (List ℕ)) (pass : PassState) (reader before : ReaderState Entry) (new : Side) (r : Result Ended Fault) → next ≡ first → Appends output out answer
    → Converses setup member next [] (record { input = input; output = out; pass = pass; reader = reader }) new r → Converses setup member first answer (record { input = input; output = output; pass = pass; reader = before }) new r
answered setup member first next answer input output out pass reader before new r same wrote v = record {
  bytes = v.bytes;
  lost = v.lost;
  packets = v.packets;
  done = v.done;
  read = v.read;
  none_lost = v.none_lost;
  stream = v.stream;
  submits = v.submits;
  knows = v.knows;
  ends = subst (λ n. EndsAs (day_over setup new.reader.known) answer n (known_replies setup member new.reader.known) v.packets v.done new.input output new.output r) same
      (answered_end (day_over setup new.reader.known) answer next (known_replies setup member new.reader.known) v.packets v.done new.input output out new.output r wrote v.ends);
}

retained_wrote : (past : Bool) (answer : List ℕ) (first : ℕ) (replies rest : List (List ℕ)) (over : Bool) (a b c : Option (List ℕ)) → Keeps b c → Wrote past answer first replies rest over a b → Wrote past answer first replies rest over a c
retained_wrote past answer first replies rest over a b c k w = record { frames = w.frames; brings = w.brings; wrote = Appends-kept a b c (answer ++ concat w.frames) w.wrote k }

retained_some : (past : Bool) (answer : List ℕ) (first : ℕ) (replies : List (List ℕ)) (a b c : Option (List ℕ)) → Keeps b c → WroteSome past answer first replies a b → WroteSome past answer first replies a c
retained_some past answer first replies a b c k w = record {
  rest = w.rest;
  over = w.over;
  frames = w.frames;
  brings = w.brings;
  unwritten = w.unwritten;
  wrote = writes_retained a b c (answer ++ concat w.frames) w.unwritten w.wrote k;
}

retained_end : (past : Bool) (answer : List ℕ) (first : ℕ) (replies : List (List ℕ)) (packets : List SoupPacket) (done : List (List ℕ)) (left a b c : Option (List ℕ)) (r : Result Ended Fault) → Keeps b c
    → EndsAs past answer first replies packets done left a b r → EndsAs past answer first replies packets done left a c r
retained_end past answer first replies packets done left a b c (Ok ended.Logout) k e = (e.0, e.1, retained_wrote past answer first replies [] false a b c k e.2)
retained_end past answer first replies packets done left a b c (Ok ended.ReaderEnd) k e = (e.0, e.1, e.2, retained_wrote past answer first replies e.2 false a b c k e.3)
retained_end past answer first replies packets done left a b c (Ok ended.DayEnd) k e = (e.0, e.1, retained_wrote past answer first replies [] true a b c k e.2)
retained_end past answer first replies packets done left a b c (Err f) k e = (e.0, retained_some past answer first replies a b c k e.1)

-- an output that stays
pub converses_retained : (setup : Setup) (member first : ℕ) (answer : List ℕ) (old new : Side) (out : Option (List ℕ)) (r : Result Ended Fault) → Keeps new.output out → Converses setup member first answer old new r → Converses setup member first answer old (record new { output = out }) r
converses_retained setup member first answer old new out r k v = record {
  bytes = v.bytes;
  lost = v.lost;
  packets = v.packets;
  done = v.done;
  read = v.read;
  none_lost = v.none_lost;
  stream = v.stream;
  submits = v.submits;
  knows = v.knows;
  ends = retained_end (day_over setup new.reader.known) answer first (known_replies setup member new.reader.known) v.packets v.done new.input old.output new.output out r k v.ends;
}

-- ---- whole sessions

-- no login came
pub no_login_ends : (setup own : Setup) (copies : List DropCopy) (input left output : Option (List ℕ)) (known : Entries Entry) (e : Ended) → NoLogin (day_over setup known) input left (stop.Ended e) → Dismisses setup own copies input left output output known (Ok e)
no_login_ends setup own copies input left output known e (why, bytes, read, rest, cuts) = inl (record {
  bytes = bytes;
  read = read;
  wrote = Keeps-refl output;
  ends = inl (elim why [ inl h ↦ inl (ap Ok h.0, h.1) | inr h ↦ inr (ap Ok h.0, h.1) ], rest, cuts);
})

pub no_login_fails : (setup own : Setup) (copies : List DropCopy) (input left output : Option (List ℕ)) (known : Entries Entry) (f : Fault) → NoLogin (day_over setup known) input left (stop.Faulted f) → Dismisses setup own copies input left output output known (Err f)
no_login_fails setup own copies input left output known f (bytes, read) = inl (record { bytes = bytes; read = read; wrote = Keeps-refl output; ends = inr (f, refl) })

-- nothing was read after the login, and the answer was broken off
broken : (setup own : Setup) (copies : List DropCopy) (input output answered out : Option (List ℕ)) (pass : PassState) (before reader : ReaderState Entry) (first_input : Option (List ℕ)) (r : Result Ended Fault) → (b : BreaksOff setup own copies first_input input output answered reader.known r) → Keeps answered out
    → Converses setup (read_by copies b.start.member) b.start.first (acceptance own b.start.first) (record { input = input; output = output; pass = pass; reader = before }) (record { input = input; output = out; pass = pass; reader = reader }) r
broken setup own copies input output answered out pass before reader first_input r b k =
    let replies = known_replies setup (read_by copies b.start.member) reader.known in
    let within = opens_within setup own copies b.login reader.known b.start b.opens in
    let first = b.start.first in
    let answer = acceptance own first in record {
      bytes = [];
      lost = [];
      packets = [];
      done = [];
      read = Consumes-nil input;
      none_lost = inl refl;
      stream = inl ([], record { whole = refl; each = λ i d l. absurd (omega arith); unfinished = tt });
      submits = submits_none (read_by copies b.start.member) pass.sent;
      knows = λ e. absurd (cc (e, b.is));
      ends = subst (EndsAs (day_over setup reader.known) answer first replies [] [] input output out) (sym b.is) (
        ([], refl),
        record {
          rest = drop (first - 1) replies;
          over = false;
          frames = [];
          brings = record {
            before = take (first - 1) replies;
            rows = [];
            splits = sym (take-append-drop (first - 1) replies);
            starts = omega (arith, within.0, within.1, length-take (first - 1) replies);
            are = (refl, refl);
            ends = λ e. absurd (cc e);
          };
          unwritten = b.unwritten;
          wrote = subst (λ l. Writes output out l b.unwritten) (sym (append-nil answer)) (writes_retained output answered out answer b.unwritten b.wrote k);
        },
      );
    }

went_dismissed : (setup own : Setup) (copies : List DropCopy) (input left output answered out : Option (List ℕ)) (pass : PassState) (before reader : ReaderState Entry) (r : Result Ended Fault) → IsPrefix before.known reader.known → Dismisses setup own copies input left output answered reader.known r → Keeps answered out
    → Went setup own copies (record { input = input; output = output; pass = pass; reader = before }) (record { input = left; output = out; pass = pass; reader = reader }) r
went_dismissed setup own copies input left output answered out pass before reader r since (inl n) k = inl (record { bytes = n.bytes; read = n.read; wrote = Keeps-trans output answered out n.wrote k; ends = n.ends }, refl)
went_dismissed setup own copies input left output answered out pass before reader r since (inr (inl j)) k = inr (inl (
  record {
    login = j.login;
    replies = j.replies;
    reason = j.reason;
    read = j.read;
    is = j.is;
    ends = elim j.ends [
      | inl h ↦ inl (h.0, Appends-kept output answered out (rejection j.reason) h.1 k)
      | inr h ↦ inr (h.0, h.1, writes_retained output answered out (rejection j.reason) h.1 h.2 k)
    ];
  },
  refl,
))
went_dismissed setup own copies input left output answered out pass before reader r since (inr (inr b)) k = inr (inr (record {
  login = b.login;
  start = b.start;
  at_login = reader.known;
  input = left;
  read = b.read;
  since = since;
  opens = b.opens;
  knew = prefix_self reader.known;
  silent = λ e. refl;
  converses = broken setup own copies left output answered out pass before reader input r b k;
}))

pub dismissed : (setup own : Setup) (copies : List DropCopy) (input left output answered out : Option (List ℕ)) (pass : PassState) (before reader : ReaderState Entry) (r : Result Ended Fault) → reader.log ≡ before.log → IsPrefix before.known reader.known → Dismisses setup own copies input left output answered reader.known r → Keeps answered out
    → Serves setup own copies (record { input = input; output = output; pass = pass; reader = before }) (record { input = left; output = out; pass = pass; reader = reader }) r
dismissed setup own copies input left output answered out pass before reader r log since d k = record {
  goes_on = record { log = log; reader = since; pass = carries_none true pass };
  went = went_dismissed setup own copies input left output answered out pass before reader r since d k;
}

pub opened : (setup own : Setup) (copies : List DropCopy) (input left output out : Option (List ℕ)) (pass : PassState) (before reader : ReaderState Entry) (start : Start) (next : ℕ) (new : Side) (last : Option (List ℕ)) (r : Result Ended Fault) → new.reader.log ≡ before.log → IsPrefix before.known reader.known → CarriesOn (may_send copies start.member) pass new.pass
    → Admits setup own copies input left output out reader.known start → next ≡ start.first
    → IsPrefix reader.known new.reader.known → Converses setup (read_by copies start.member) next [] (record { input = left; output = out; pass = pass; reader = reader }) new r → Keeps new.output last
    → Serves setup own copies (record { input = input; output = output; pass = pass; reader = before }) (record new { output = last }) r
opened setup own copies input left output out pass before reader start next new last r log since carries a same knew v k = record {
  goes_on = record { log = log; reader = prefix_trans before.known reader.known new.reader.known since knew; pass = carries_true (may_send copies start.member) pass new.pass carries };
  went = inr (inr (record {
    login = a.login;
    start = start;
    at_login = reader.known;
    input = left;
    read = a.read;
    since = since;
    opens = a.opens;
    knew = knew;
    silent = carries.silent;
    converses = converses_retained setup (read_by copies start.member) start.first (acceptance own start.first) (record { input = left; output = output; pass = pass; reader = before }) new last r k
        (answered setup (read_by copies start.member) start.first next (acceptance own start.first) left output out pass reader before new r same a.wrote v);
  }));
}

-- two sessions of one part
pub sessions_go_on : SessionsGoOn
sessions_go_on setup own copies before between after first second a b = (
  record {
    log = b.goes_on.log ∙ a.goes_on.log;
    reader = prefix_trans before.reader.known between.reader.known after.reader.known a.goes_on.reader b.goes_on.reader;
    pass = carries_more true before.pass between.pass after.pass a.goes_on.pass b.goes_on.pass;
  },
  λ member. known_grows setup member between.reader.known after.reader.known b.goes_on.reader,
)
