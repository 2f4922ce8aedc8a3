-- What passes know of a desk.
use Rattle.std.proofs.Common.{◌≡◌, ℕ, zero, suc, ◌+◌, ◌-◌, ◌<◌, ◌≤◌, List, [], ◌∷◌, ◌++◌, length, take, drop, refl, ap, sym, ◌∙◌, subst, arith, append_assoc, append-nil, length-append}
use Rattle.std.proofs.Math.Seq.{take-append-add}
use Rattle.std.proofs.lemmas.List.{map-append, length-map, take-append-drop}
use Rattle.std.specs.List.{AllByRecursion}
use mathlib.Core.List.{IsPrefix}
use Rattle.hx_blog.specs.Feed.{Entries, feed}
use Rattle.hx_blog.specs.Ends.{ReaderState}
use Rattle.hx_members.specs.Setups.{Setup}
use Rattle.hx_rules.specs.declared.event.Event.{Event}
use Rattle.hx_market.specs.Markets.{Market, opening}
use Rattle.hx_market.specs.Steps.{step, run, replies}
use Rattle.hx_laws.specs.Recorded.{AreRecorded}
use Rattle.hx_desk.proofs.Standing.{accepted_take}
use Rattle.hx_desk.specs.declared.entry.Entry.{Entry}
use Rattle.hx_desk.specs.declared.entry.Done.{Done}
use Rattle.hx_desk.specs.Entries.{entry_of, events_of, feed_spelled, ledger_from, ledger}
use Rattle.hx_desk.specs.Known.{history_of, known_market, known_replies}
use Rattle.hx_desk.specs.Rows.{row_of, row_count, replies_spelled}
use Rattle.hx_desk.specs.Secrecy.{IsFeedWithoutTrace}
use Rattle.hx_desk.specs.Desks.{DeskState, IsStanding, TellsNoSecret, published_of, published_market}
use Rattle.hx_engine.specs.Passes.{Sent, PassState, sent_by, placed, sent_from, sent_in, AreSomeOf}
use Rattle.hx_engine.specs.Exchanges.{Sends, SendsAll, SendsFirst, Enters, Settles, LastDone, IsAudit}
use Rattle.hx_engine.specs.Journals.{unspoken}
use Rattle.hx_desk.specs.Known.{IsWhole}
use Rattle.hx_engine.proofs.Positions.{more_known, history_of_ledger, stand_at, are_below, all_sent, sent_append, some_of_more}
use Rattle.hx_engine.proofs.HeldLaws.{published_of_unspoken}
use Rattle.hx_units.proofs.Prefixes.{prefix_trans}

-- what a standing desk of this setup published is the published part of its history, with its feed
pub published_by : (setup : Setup) (d : DeskState) → IsStanding d → d.setup ≡ setup → d.published ≡ ledger setup (published_of d)
published_by setup d s is = s.published ∙ ap (λ (x : Setup). ledger x (published_of d)) is

pub history_known : (d : DeskState) (known : Entries Entry) → IsStanding d → known ≡ d.published → history_of known ≡ published_of d
history_known d known s is = ap history_of (is ∙ s.published) ∙ history_of_ledger d.setup (published_of d)

pub knows_whole : (setup : Setup) (d : DeskState) (known : Entries Entry) → IsStanding d → d.setup ≡ setup → known ≡ d.published → IsWhole setup known
knows_whole setup d known s of_setup is = is ∙ published_by setup d s of_setup ∙ ap (ledger setup) (sym (history_known d known s is))

-- the market after the published entries, and the row of a member, are those of what is known
pub market_known : (setup : Setup) (d : DeskState) (known : Entries Entry) → IsStanding d → d.setup ≡ setup → known ≡ d.published → published_market d ≡ known_market setup known
market_known setup d known s of_setup is =
    ap (λ (x : Setup). run x (events_of (published_of d))) of_setup ∙ ap (λ (h : List Entry). run setup (events_of h)) (sym (history_known d known s is))

pub row_known : (setup : Setup) (d : DeskState) (known : Entries Entry) (member : ℕ) → IsStanding d → d.setup ≡ setup → known ≡ d.published → member < row_count
    → row_of d.rows member ≡ known_replies setup member known
row_known setup d known member s of_setup is small =
    s.rows member small
    ∙ ap (λ (x : Setup). replies_spelled (replies x member (events_of (published_of d)))) of_setup
    ∙ ap (λ (h : List Entry). replies_spelled (replies setup member (events_of h))) (sym (history_known d known s is))

-- what a pass sent stands in all that is published
pub still_sent : (n : ℕ) (sent : List Sent) (old published new : Entries Entry) → IsPrefix old published → new ≡ published → AreSomeOf sent (sent_in n (history_of old)) → AreSomeOf sent (sent_in n (history_of new))
still_sent n sent old published new begins is h = subst (λ (k : Entries Entry). AreSomeOf sent (sent_in n (history_of k))) (sym is) (more_known n sent old published begins h)

pub audited : (setup : Setup) (d : DeskState) (history : List Entry) (reader : ReaderState Entry) (pass : PassState) → IsStanding d → TellsNoSecret d → d.setup ≡ setup
    → history ≡ published_of d → reader.known ≡ d.published → pass.known ≡ d.published → AreSomeOf pass.sent (sent_in pass.number (history_of pass.known)) → IsAudit setup history reader pass
audited setup d history reader pass s secret of_setup same reads knows sent =
    let published : d.published ≡ ledger setup history = published_by setup d s of_setup ∙ ap (ledger setup) (sym same) in
    let stands : AreSomeOf pass.sent (sent_in pass.number history) = subst (λ (h : List Entry). AreSomeOf pass.sent (sent_in pass.number h)) (history_known d pass.known s knows ∙ sym same) sent in
    let accepted : AreRecorded setup (events_of d.history) = subst (λ (x : Setup). AreRecorded x (events_of d.history)) of_setup s.accepted in
    record {
      accepted = subst (λ (h : List Entry). AreRecorded setup (events_of h)) (sym same) (accepted_take setup d.published_end d.history accepted);
      reader_knows = reads ∙ published;
      pass_knows = knows ∙ published;
      sent = stands;
      stand = stand_at pass.number pass.sent history stands;
      secret =
          subst (λ (x : Setup). IsFeedWithoutTrace x (events_of history) (feed reader.known)) of_setup
          (subst (λ (h : List Entry). IsFeedWithoutTrace d.setup (events_of h) (feed reader.known)) (sym same)
          (subst (λ (k : Entries Entry). IsFeedWithoutTrace d.setup (events_of (published_of d)) (feed k)) (sym reads) secret.feed_published));
    }

-- what a standing desk published is a history that the market accepts
pub published_accepted : (setup : Setup) (d : DeskState) → IsStanding d → d.setup ≡ setup → AreRecorded setup (events_of (published_of d))
published_accepted setup d s of_setup = accepted_take setup d.published_end d.history (subst (λ (x : Setup). AreRecorded x (events_of d.history)) of_setup s.accepted)

-- Histories that are written down.

-- a history whose beginning is another history that was written down
begins_with : (h : List Entry) (entered : Entries Entry) (history : List Entry) → entered ≡ unspoken h → IsPrefix entered (unspoken history) → (rest : List Entry) × (history ≡ h ++ rest)
begins_with h entered history is p = (
  history_of p.0,
  sym (published_of_unspoken history) ∙ ap history_of (sym p.1) ∙ map-append (λ (x : Entry × List (List ℕ)). x.0) entered p.0
      ∙ ap (λ (k : Entries Entry). history_of k ++ history_of p.0) is ∙ ap (λ (l : List Entry). l ++ history_of p.0) (published_of_unspoken h),
)

-- the published part of a longer history begins with a history that is no longer than that part
published_with : (h history : List Entry) (rest : List Entry) (published_end : ℕ) → history ≡ h ++ rest → length h ≤ published_end → take published_end history ≡ h ++ take (published_end - length h) rest
published_with h history rest published_end is far =
    ap (take published_end) is ∙ ap (λ n. take n (h ++ rest)) (let e : published_end ≡ length h + (published_end - length h) = omega arith in e) ∙ take-append-add h rest (published_end - length h)

-- what the pass knows once its entries are published
pub now_known : (setup : Setup) (number : ℕ) (events : List Event) (done : Done) (known mid new entered : Entries Entry) → (e : Enters setup number events known entered done) → Settles setup done.place entered mid new
    → (after : List Entry) × (new ≡ ledger setup ((e.before ++ sent_by number events) ++ after)) × AreRecorded setup (events_of ((e.before ++ sent_by number events) ++ after))
now_known setup number events done known mid new entered e s =
    let h : List Entry = e.before ++ sent_by number events in
    let rest = begins_with h entered s.history e.written s.begins in
    let far : length h ≤ s.published_end = omega (arith, length-append e.before (sent_by number events), length-map events (entry_of number), e.place, s.far) in
    let is : take s.published_end s.history ≡ h ++ take (s.published_end - length h) rest.0 = published_with h s.history rest.0 s.published_end rest.1 far in (
      take (s.published_end - length h) rest.0,
      s.knows ∙ ap (ledger setup) is,
      subst (λ (k : List Entry). AreRecorded setup (events_of k)) is (accepted_take setup s.published_end s.history s.accepted),
    )

-- what the pass sent before stands in the history before
sent_before : (setup : Setup) (number : ℕ) (events : List Event) (done : Done) (sent : List Sent) (known entered : Entries Entry) → (e : Enters setup number events known entered done)
    → AreSomeOf sent (sent_in number (history_of known)) → AreSomeOf sent (sent_in number e.before)
sent_before setup number events done sent known entered e stood =
    subst (λ (h : List Entry). AreSomeOf sent (sent_in number h)) (history_of_ledger setup e.before) (more_known number sent known (ledger setup e.before) e.knew stood)

-- the number of entries before its events
later : (setup : Setup) (number : ℕ) (events : List Event) (done : Done) (known entered : Entries Entry) → (e : Enters setup number events known entered done) → done.place - length events ≡ length e.before
later setup number events done known entered e = let p = e.place in omega arith

-- a pass whose entries are published knows them
pub sends_all : (setup : Setup) (old new : PassState) (events : List Event) (done : Done) (mid entered : Entries Entry)
    → Enters setup old.number events old.known entered done → Settles setup done.place entered mid new.known
    → AreSomeOf old.sent (sent_in old.number (history_of old.known))
    → new.number ≡ old.number → new.sent ≡ old.sent ++ placed (done.place - length events) events → old.waiting ≡ [] → new.waiting ≡ [] → SendsAll setup old new events done
sends_all setup old new events done mid entered e s stood number sent was is =
    let known = now_known setup old.number events done old.known mid new.known entered e s in
    record {
      before = e.before;
      after = known.0;
      knew = e.knew;
      knows = known.1 ∙ ap (ledger setup) (append_assoc e.before (sent_by old.number events) known.0);
      accepted = subst (λ (k : List Entry). AreRecorded setup (events_of k)) (append_assoc e.before (sent_by old.number events) known.0) known.2;
      number = number;
      sent = sent ∙ ap (λ k. old.sent ++ placed k events) (later setup old.number events done old.known entered e);
      above = are_below old.number old.sent e.before (length e.before + 1) refl (sent_before setup old.number events done old.sent old.known entered e stood);
      place = e.place;
      last = e.last;
      idle = (was, is);
    }

-- its events are among the entries that it knows
pub more_sent : (setup : Setup) (number : ℕ) (sent new : List Sent) (events : List Event) (done : Done) (known mid now entered : Entries Entry)
    → Enters setup number events known entered done → Settles setup done.place entered mid now
    → AreSomeOf sent (sent_in number (history_of known)) → new ≡ sent ++ placed (done.place - length events) events → AreSomeOf new (sent_in number (history_of now))
more_sent setup number sent new events done known mid now entered e s stood more =
    let k = now_known setup number events done known mid now entered e s in
    let h : List Entry = e.before ++ sent_by number events in
    let all : List Sent = sent ++ placed (length e.before) events in
    let some : AreSomeOf all (sent_in number h) = all_sent number sent e.before events (sent_before setup number events done sent known entered e stood) in
    let longer : AreSomeOf all (sent_in number (h ++ k.0)) =
    subst (AreSomeOf all) (sym (sent_append number 1 h k.0)) (some_of_more all (sent_in number h) (sent_from number (1 + length h) k.0) some) in
    subst (λ (l : List Entry). AreSomeOf new (sent_in number l)) (sym (ap history_of k.1 ∙ history_of_ledger setup (h ++ k.0)))
    (subst (λ (xs : List Sent). AreSomeOf xs (sent_in number (h ++ k.0))) (sym (more ∙ ap (λ k. sent ++ placed k events) (later setup number events done known entered e))) longer)

-- one event, if these are all
pub sends_one : (setup : Setup) (old new : PassState) (event : Event) (done : Done) → SendsAll setup old new (event ∷ []) done → Sends setup old new event done
sends_one setup old new event done s =
    let last = s.last [] event refl in
    let same : s.before ++ [] ≡ s.before = append-nil s.before in
    let position : done.place ≡ length s.before + 1 = last.place ∙ ap (λ (h : List Entry). length h + 1) same in
    record {
      before = s.before;
      after = s.after;
      knew = s.knew;
      knows = s.knows;
      accepted = s.accepted;
      number = s.number;
      sent = s.sent ∙ ap (λ k. old.sent ++ (k, event) ∷ []) (sym position);
      place = position;
      above = subst (λ k. AllByRecursion (λ x. x.0 < k) old.sent) (sym position) s.above;
      first = last.first ∙ ap (λ (h : List Entry). length (feed (ledger setup h)) + 1) same;
      count = last.count ∙ ap (λ (h : List Entry). length (step setup (run setup (events_of h)) event).output.feed) same;
      idle = s.idle;
    }

-- an event enters a desk that stands
pub ledger_more_from : (setup : Setup) (a : Market) (h rest : List Entry) → IsPrefix (ledger_from setup a h) (ledger_from setup a (h ++ rest))
unfolding ledger_from
ledger_more_from setup a [] rest = (ledger_from setup a rest, refl)
ledger_more_from setup a (e ∷ h) rest =
    let more = ledger_more_from setup (step setup a e.event).market h rest in
    (more.0, ap (λ (l : Entries Entry). (e, feed_spelled (step setup a e.event).output.feed) ∷ l) more.1)

pub ledger_more : (setup : Setup) (h rest : List Entry) → IsPrefix (ledger setup h) (ledger setup (h ++ rest))
unfolding ledger
ledger_more setup h rest = ledger_more_from setup (opening setup) h rest

pub enters : (setup : Setup) (d e : DeskState) (number : ℕ) (events : List Event) (known entered : Entries Entry) (done : Done) → IsStanding d → d.setup ≡ setup
    → e.history ≡ d.history ++ sent_by number events → done.place ≡ length d.history + length events → LastDone setup number d.history events done
    → IsPrefix known d.published → entered ≡ unspoken e.history → Enters setup number events known entered done
enters setup d e number events known entered done s of_setup grows position last knew written =
    let published_end : d.published ≡ ledger setup (published_of d) = published_by setup d s of_setup in
    let all : IsPrefix (ledger setup (published_of d)) (ledger setup d.history) = subst (λ (h : List Entry). IsPrefix (ledger setup (published_of d)) (ledger setup h)) (take-append-drop d.published_end d.history) (ledger_more setup (published_of d) (drop d.published_end d.history)) in
    record {
      before = d.history;
      knew = prefix_trans known (ledger setup (published_of d)) (ledger setup d.history) (subst (IsPrefix known) published_end knew) all;
      written = written ∙ ap unspoken grows;
      place = position;
      last = last;
    }

-- What a pass sent.

pub length_placed : (k : ℕ) (events : List Event) → length (placed k events) ≡ length events
length_placed k [] = refl
length_placed k (e ∷ events) = ap suc (length_placed (k + 1) events)

pub none_left : (n : ℕ) (xs : List Sent) → length xs ≤ n → drop n xs ≡ []
none_left zero [] l = refl
none_left (suc n) [] l = refl
none_left zero (x ∷ xs) l = absurd (omega arith)
none_left (suc n) (x ∷ xs) l = none_left n xs (omega arith)

pub sends_first : (setup : Setup) (old new : PassState) (events : List Event) (count : ℕ) (done : Done) → 0 < count → SendsAll setup old new (take count events) done → SendsFirst setup old new events count
sends_first setup old new events zero done l s = absurd (omega arith)
sends_first setup old new events (suc n) done l s = (done, s)
