-- How a session is opened.
use Rattle.std.proofs.Common.{◌≡◌, ℕ, ◌+◌, ◌-◌, ◌≤◌, List, [], ◌∷◌, ◌++◌, length, take, drop, Bool, true, false, nat_lt, nat_le, Option, Some, None, Result, Ok, Err, refl, sym, ap, ◌∙◌, subst, inl, inr, arith, append_assoc, append-nil, length-append, length-take}
use Rattle.std.specs.Prelude.{◌&&◌, if◌then◌else◌, IfOk}
use Rattle.std.specs.Io.KnownBytes.{Consumes}
use Rattle.std.proofs.KnownBytes.{Consumes-trans, Consumes-nil}
use Rattle.std.proofs.lemmas.Bool.Decides.{nat_tests}
use Rattle.std.proofs.lemmas.List.{nil_from_length}
use Rattle.std.proofs.lemmas.Option.{same_Some}
use Rattle.hx_soup.specs.Kinds.{login_request}
use Rattle.hx_soup.specs.Logins.{IsLogin}
use Rattle.hx_soup.specs.Packets.{framed, packet_bytes, stream_of, Cuts}
use Rattle.hx_soup.specs.declared.packet.SoupPacket.{SoupPacket}
use Rattle.hx_soup.specs.declared.login.LoginRequest.{LoginRequest}
use Rattle.hx_units.specs.Fields.{spelled}
use Rattle.hx_members.specs.Setups.{Setup, login_of}
use Rattle.hx_sessions.specs.Starts.{is_present, first_reply, started, start_of}
use Rattle.hx_sessions.specs.declared.beginning.Start.{Start}
use Rattle.hx_blog.specs.Feed.{Entries}
use Rattle.hx_desk.specs.declared.entry.Entry.{Entry}
use Rattle.hx_desk.specs.Known.{IsWhole, known_replies}
use Rattle.hx_sessions.specs.Frames.{IsNextOf}
use Rattle.hx_sessions.specs.Logins.{LogsIn, Opens, NoLogin, ReadsFirst, FailsFirst, AwaitsLogin}
use Rattle.hx_sessions.specs.declared.copies.DropCopy.{DropCopy}
use Rattle.hx_sessions.specs.Copies.{read_by}
use Rattle.hx_sessions.specs.declared.ending.Ended.TheVariants as ended
use Rattle.hx_sessions.specs.declared.ending.Stop.{Stop}
use Rattle.hx_sessions.specs.declared.ending.Stop.TheVariants as stop

started_ok : (o : Option ℕ) (b : Bool) (first : ℕ) (s : Start) → started o b first ≡ Ok s → (o ≡ Some s.member) × (s.first ≡ first)
started_ok None b first s e = absurd (cc e)
started_ok (Some m) false first s e = absurd (cc e)
started_ok (Some m) true first s e =
    let same : record { member = m; first = first } ≡ s = cc e in
    (ap (λ (x : Start). Some x.member) same, sym (ap (λ (x : Start). x.first) same))

bounds : (b : Bool) (asked n : ℕ) → (nat_lt 0 asked && nat_le asked (n + 1)) ≡ b → (1 ≤ (if b then asked else n + 1)) × ((if b then asked else n + 1) ≤ n + 1)
bounds true asked n e = (grind (arith, nat_tests), grind (arith, nat_tests))
bounds false asked n e = (omega arith, omega arith)

pub first_bounds : (asked n : ℕ) → (1 ≤ first_reply asked n) × (first_reply asked n ≤ n + 1)
first_bounds asked n = bounds (nat_lt 0 asked && nat_le asked (n + 1)) asked n refl

opens : (setup own : Setup) (copies : List DropCopy) (login : LoginRequest) (n m : ℕ) (known : Entries Entry) (s : Start) → start_of own login n ≡ Ok s → login_of own login.user login.password ≡ Some m → n ≡ length (known_replies setup (read_by copies m) known) → IsWhole setup known → Opens setup own copies login known s
opens setup own copies login n m known s e is count whole =
    let h = started_ok (login_of own login.user login.password) (is_present login.session own.session) (first_reply login.sequence n) s e in
    let same : m ≡ s.member = cc (is, h.0) in
    let size : n ≡ length (known_replies setup (read_by copies s.member) known) = count ∙ ap (λ k. length (known_replies setup (read_by copies k) known)) same in
    record { is = ap (start_of own login) (sym size) ∙ e; whole = whole }

opens_none : (setup own : Setup) (copies : List DropCopy) (login : LoginRequest) (n : ℕ) (known : Entries Entry) (s : Start) → start_of own login n ≡ Ok s → login_of own login.user login.password ≡ None → Opens setup own copies login known s
opens_none setup own copies login n known s e is =
    let h = started_ok (login_of own login.user login.password) (is_present login.session own.session) (first_reply login.sequence n) s e in
    absurd (cc (is, h.0))

-- the answer to a login, by what stands for the member that logs in so
pub started_by : (setup own : Setup) (copies : List DropCopy) (login : LoginRequest) (n m : ℕ) (known : Entries Entry) (r : Result Start ℕ) → r ≡ start_of own login n → login_of own login.user login.password ≡ Some m → n ≡ length (known_replies setup (read_by copies m) known) → IsWhole setup known
    → IfOk r (λ s. Opens setup own copies login known s)
started_by setup own copies login n m known (Ok s) e is count whole = opens setup own copies login n m known s (sym e) is count whole
started_by setup own copies login n m known (Err x) e is count whole = tt

-- no member logs in so
pub started_by_none : (setup own : Setup) (copies : List DropCopy) (login : LoginRequest) (n : ℕ) (known : Entries Entry) (r : Result Start ℕ) → r ≡ start_of own login n → login_of own login.user login.password ≡ None → IfOk r (λ s. Opens setup own copies login known s)
started_by_none setup own copies login n known (Ok s) e is = opens_none setup own copies login n known s (sym e) is
started_by_none setup own copies login n known (Err x) e is = tt

-- the first reply is there, or is the next one
pub opens_within : (setup own : Setup) (copies : List DropCopy) (login : LoginRequest) (known : Entries Entry) (s : Start) → Opens setup own copies login known s → IsNextOf (known_replies setup (read_by copies s.member) known) s.first
opens_within setup own copies login known s o =
    let n = length (known_replies setup (read_by copies s.member) known) in
    let h = started_ok (login_of own login.user login.password) (is_present login.session own.session) (first_reply login.sequence n) s o.is in
    let b = first_bounds login.sequence n in
    (omega (arith, h.1, b.0), omega (arith, h.1, b.1))

two_bytes : (n : ℕ) → length (spelled 2 n) ≡ 2
unfolding spelled
two_bytes n = refl

-- a login packet of 49 bytes is all that was read
pub logs_in : (a b c : Option (List ℕ)) (bytes piece rest : List ℕ) (p : SoupPacket) (ps : List SoupPacket) (login : LoginRequest) → Consumes a b bytes → Consumes b c piece → Cuts (bytes ++ piece) (p ∷ ps) rest → length bytes + length piece ≤ 49
    → p.kind ≡ login_request → length p.payload.items ≡ 46 → IsLogin p.payload.items login → LogsIn a c login
logs_in a b c bytes piece rest p ps login first next cuts most kind size is =
    let whole : bytes ++ piece ≡ packet_bytes p ++ (stream_of ps ++ rest) = cuts.whole ∙ append_assoc (packet_bytes p) (stream_of ps) rest in
    let two : length (spelled 2 (length p.payload.items + 1)) ≡ 2 = two_bytes (length p.payload.items + 1) in
    let len : length (packet_bytes p) ≡ 49 = omega (arith, two, length-append (spelled 2 (length p.payload.items + 1)) (p.kind ∷ p.payload.items), size) in
    let none : stream_of ps ++ rest ≡ [] = nil_from_length (stream_of ps ++ rest) (omega (arith, ap length whole, length-append bytes piece, length-append (packet_bytes p) (stream_of ps ++ rest), len, most)) in
    let bytes_are : bytes ++ piece ≡ framed login_request p.payload.items = whole ∙ (ap (λ l. packet_bytes p ++ l) none ∙ (append-nil (packet_bytes p) ∙ ap (λ k. framed k p.payload.items) kind)) in record {
      payload = p.payload.items;
      read = subst (Consumes a c) bytes_are (Consumes-trans a b c bytes piece first next);
      is = is;
    }

-- ---- the first packet

login_size : (payload : List ℕ) (login : LoginRequest) → IsLogin payload login → length payload ≡ 46
login_size payload login l =
    let two = login.user ++ login.password in
    let three = two ++ login.session in
    let more = login.session ++ l.text in
    let next = login.password ++ more in
    let right : length (login.user ++ next) ≡ 46 = omega (arith, length-append login.user next, length-append login.password more, length-append login.session l.text, l.user, l.password, l.session, l.text_len) in
    let same : three ++ l.text ≡ login.user ++ next = append_assoc two login.session l.text ∙ append_assoc login.user login.password more in
    ap length l.whole ∙ (ap length same ∙ right)

-- less than a whole packet stays as it is
nothing_cut : (stream rest : List ℕ) → Cuts stream [] rest → stream ≡ rest
nothing_cut stream rest c = c.whole

pub awaits_none : (a : Option (List ℕ)) → AwaitsLogin a a (Some []) 0
awaits_none a = record {
  bytes = [];
  read = Consumes-nil a;
  retained = refl;
  cuts = record { whole = refl; each = λ k d l. absurd (omega arith); unfinished = tt };
  size = refl;
}

pub awaits_more : (a b c f g : Option (List ℕ)) (n room m : ℕ) → AwaitsLogin a b f n → ReadsFirst b c f g room None m → AwaitsLogin a c g (n + m)
awaits_more a b c f g n room m w r = elim r.gives [
  | inl h ↦
      let size : length r.piece ≡ 0 = ap length h.0 in record {
        bytes = w.bytes;
        read = subst (Consumes a c) (ap (λ l. w.bytes ++ l) h.0 ∙ append-nil w.bytes) (Consumes-trans a b c w.bytes r.piece w.read r.read);
        retained = h.1 ∙ w.retained;
        cuts = w.cuts;
        size = omega (arith, w.size, size, r.size);
      }
  | inr h ↦
      let retained = h.0 in
      let rest = h.1 in
      let same : retained ≡ w.bytes = same_Some retained w.bytes (sym h.2 ∙ w.retained) in
      let cuts : Cuts (w.bytes ++ r.piece) [] rest = subst (λ k. Cuts (k ++ r.piece) [] rest) same h.4 in
      let whole : w.bytes ++ r.piece ≡ rest = nothing_cut (w.bytes ++ r.piece) rest cuts in record {
        bytes = w.bytes ++ r.piece;
        read = Consumes-trans a b c w.bytes r.piece w.read r.read;
        retained = h.3 ∙ ap Some (sym whole);
        cuts = subst (Cuts (w.bytes ++ r.piece) []) (sym whole) cuts;
        size = omega (arith, length-append w.bytes r.piece, w.size, r.size);
      }
]

pub awaits_login : (a b c f g : Option (List ℕ)) (n room m : ℕ) (login : LoginRequest) → AwaitsLogin a b f n → n + room ≤ 49 → ReadsFirst b c f g room (Some login) m → LogsIn a c login
awaits_login a b c f g n room m login w most r =
    let h = r.gives in
    let same : h.0 ≡ w.bytes = same_Some h.0 w.bytes (sym h.4 ∙ w.retained) in
    let cuts : Cuts (w.bytes ++ r.piece) (h.2 ∷ h.3) h.1 = subst (λ k. Cuts (k ++ r.piece) (h.2 ∷ h.3) h.1) same h.5 in
    logs_in a b c w.bytes r.piece h.1 h.2 h.3 login w.read r.read cuts (omega (arith, w.size, r.size, r.fits, most)) h.6 (login_size h.2.payload.items login h.7) h.7

pub awaits_stop : (past : Bool) (a b c f : Option (List ℕ)) (n : ℕ) (s : Stop) → AwaitsLogin a b f n → FailsFirst b c s → NoLogin past a c s
awaits_stop past a b c f n stop.PeerStopped w h = absurd h
awaits_stop past a b c f n (stop.Ended e) w (is, read, end) =
    (inl (is, end), w.bytes, subst (Consumes a c) (append-nil w.bytes) (Consumes-trans a b c w.bytes [] w.read read), w.bytes, w.cuts)
awaits_stop past a b c f n (stop.Faulted x) w (piece, read) = (w.bytes ++ piece, Consumes-trans a b c w.bytes piece w.read read)

-- the day is over before the login
pub awaits_end : (past : Bool) (a b f : Option (List ℕ)) (n : ℕ) → AwaitsLogin a b f n → past ≡ true → NoLogin past a b (stop.Ended ended.DayEnd)
awaits_end past a b f n w over = (inr (refl, over), w.bytes, w.read, w.bytes, w.cuts)

pub space_fits : (n : ℕ) (buffer : List ℕ) → n ≤ 49 → n + length (take (49 - n) (drop n buffer)) ≤ 49
space_fits n buffer most = omega (arith, most, length-take (49 - n) (drop n buffer))
