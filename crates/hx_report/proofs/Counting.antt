-- What is counted of what was noted is what the definitions count.
use Rattle.std.proofs.Common.{◌≡◌, ℕ, ◌+◌, Bool, true, false, cond, eqb, not, ◌&&◌, refl, sym, ap, ◌∙◌, List, [], ◌∷◌, map, length, Option, Some, None, arith}
use Rattle.std.specs.Prelude.{sum_by, count_by}
use Rattle.std.specs.List.{filter, flat_map}
use Rattle.std.proofs.lemmas.Bool.Decides.{Decides-eqb}
use Rattle.std.proofs.lemmas.List.{length-map}
use Rattle.std.proofs.lemmas.List.Sums.{sum_by-append, sum_by-cons, length-filter}
use Rattle.hx_members.specs.Setups.{Setup}
use Rattle.hx_ouch.specs.declared.outbound.Outbound.{Outbound}
use Rattle.hx_rules.specs.declared.event.Event.{Event}
use Rattle.hx_market.specs.Markets.{Market}
use Rattle.hx_market.specs.Outputs.{Reply, EventOutput}
use Rattle.hx_market.specs.Steps.{run, output, sender, replies, replies_of, replies_among}
use Rattle.hx_audit.specs.declared.chain.Chain.{Chain}
use Rattle.hx_audit.specs.Facts.{are_loud}
use Rattle.hx_audit.specs.Listing.{chains_of}
use Rattle.hx_tape_lines.specs.Text.{Entry}
use Rattle.hx_tape_lines.specs.Events.{event_of}
use Rattle.hx_report.specs.declared.census.ChainMark.{ChainMark}
use Rattle.hx_report.specs.declared.day.Day.{Day}
use Rattle.hx_report.specs.declared.marks.Mark.{Mark}
use Rattle.hx_report.specs.declared.rest.Rested.{Rested}
use Rattle.hx_report.specs.declared.rest.Hidden.{Hidden}
use Rattle.hx_report.specs.declared.rows.Tally.{Tally}
use Rattle.hx_report.specs.Marks.{mark_of, marks_of}
use Rattle.hx_report.specs.Sums.{counted}
use Rattle.hx_report.specs.Counts.{messages_by, chains_by, quiet_chains_by, is_execution, trades_of, hidden_in, left_by, rested_by, rested_in, IsTally}
use Rattle.hx_report.specs.Noted.{traders_in, traders_of, rest_of, rests_among, rests_of, quiet_among, AreChains}
use Rattle.hx_report.specs.Days.{IsDay}

-- nothing more
none_more : (n : ℕ) → 0 + n ≡ n
none_more n = omega arith

sum_map : {X Y : Type 0} (f : Y → ℕ) (g : X → Y) (xs : List X) → sum_by f (map g xs) ≡ sum_by (λ x. f (g x)) xs
sum_map f g [] = refl
sum_map f g (x ∷ xs) = sum_by-cons f (g x) (map g xs) ∙ ap (λ n. f (g x) + n) (sum_map f g xs) ∙ sym (sum_by-cons (λ y. f (g y)) x xs)

-- ---- messages

messages_counted : (setup : Setup) (m : ℕ) (es : List Entry) → count_by (λ (k : Mark). eqb k.sender m) (marks_of setup es) ≡ messages_by m (map event_of es)
messages_counted setup m es =
    sum_map (λ (k : Mark). cond (eqb k.sender m) 1 0) (λ (e : Entry). mark_of (run setup (map event_of es)) (event_of e)) es
    ∙ sym (sum_map (λ (x : Event). cond (eqb (sender x) m) 1 0) event_of es)

-- ---- chains

chains_counted : (market : Market) (m : ℕ) (chains : List ChainMark) → AreChains market chains → count_by (λ (c : ChainMark). eqb c.member m) chains ≡ chains_by market m
chains_counted market m chains are =
    sym (length-filter (λ (c : ChainMark). eqb c.member m) chains)
    ∙ sym (length-map (filter (λ (c : ChainMark). eqb c.member m) chains) (λ (c : ChainMark). c.quiet))
    ∙ ap length (are m)
    ∙ length-map (chains_of market m) (λ (c : Chain). not (are_loud c.facts))

quiet_listed : (m : ℕ) (chains : List ChainMark) → count_by (λ (c : ChainMark). eqb c.member m && c.quiet) chains ≡ count_by (λ (b : Bool). b) (quiet_among m chains)
quiet_listed m [] = refl
quiet_listed m (c ∷ chains) =
    sum_by-cons (λ (k : ChainMark). cond (eqb k.member m && k.quiet) 1 0) c chains ∙ at (eqb c.member m) (quiet_listed m chains)
  where
    at : (b : Bool) → count_by (λ (k : ChainMark). eqb k.member m && k.quiet) chains ≡ count_by (λ (x : Bool). x) (quiet_among m chains)
        → cond (b && c.quiet) 1 0 + count_by (λ (k : ChainMark). eqb k.member m && k.quiet) chains
        ≡ count_by (λ (x : Bool). x) (map (λ (k : ChainMark). k.quiet) (cond b (c ∷ filter (λ (k : ChainMark). eqb k.member m) chains) (filter (λ (k : ChainMark). eqb k.member m) chains)))
    at true ih = ap (λ n. cond c.quiet 1 0 + n) ih ∙ sym (sum_by-cons (λ (x : Bool). cond x 1 0) c.quiet (quiet_among m chains))
    at false ih = none_more _ ∙ ih

quiet_counted : (market : Market) (m : ℕ) (chains : List ChainMark) → AreChains market chains → count_by (λ (c : ChainMark). eqb c.member m && c.quiet) chains ≡ quiet_chains_by market m
quiet_counted market m chains are =
    quiet_listed m chains ∙ ap (count_by (λ (b : Bool). b)) (are m) ∙ sum_map (λ (b : Bool). cond b 1 0) (λ (c : Chain). not (are_loud c.facts)) (chains_of market m)

-- ---- executions

traded_in : (m : ℕ) (rs : List Reply) → count_by (λ (k : ℕ). eqb k m) (traders_in rs) ≡ count_by is_execution (replies_among m rs)
traded_in m [] = refl
traded_in m (r ∷ rs) = at (is_execution r.1) refl (eqb r.0 m) refl (traded_in m rs)
  where
    P : ℕ → ℕ
    P k = cond (eqb k m) 1 0

    Q : Outbound → ℕ
    Q x = cond (is_execution x) 1 0

    at : (c : Bool) → is_execution r.1 ≡ c → (d : Bool) → eqb r.0 m ≡ d → sum_by P (traders_in rs) ≡ sum_by Q (replies_among m rs)
        → sum_by P (cond c (r.0 ∷ traders_in rs) (traders_in rs)) ≡ sum_by Q (cond d (r.1 ∷ replies_among m rs) (replies_among m rs))
    at true p true q ih =
        sum_by-cons P r.0 (traders_in rs) ∙ ap (λ (b : Bool). cond b 1 0 + sum_by P (traders_in rs)) q ∙ ap (λ n. 1 + n) ih
        ∙ ap (λ (b : Bool). cond b 1 0 + sum_by Q (replies_among m rs)) (sym p) ∙ sym (sum_by-cons Q r.1 (replies_among m rs))
    at true p false q ih = sum_by-cons P r.0 (traders_in rs) ∙ ap (λ (b : Bool). cond b 1 0 + sum_by P (traders_in rs)) q ∙ none_more _ ∙ ih
    at false p true q ih = ih ∙ sym (none_more _) ∙ ap (λ (b : Bool). cond b 1 0 + sum_by Q (replies_among m rs)) (sym p) ∙ sym (sum_by-cons Q r.1 (replies_among m rs))
    at false p false q ih = ih

traded_all : (m : ℕ) (ts : List EventOutput) → count_by (λ (k : ℕ). eqb k m) (traders_of ts) ≡ count_by is_execution (replies_of m ts)
traded_all m [] = refl
traded_all m (t ∷ ts) =
    sum_by-append (λ (k : ℕ). cond (eqb k m) 1 0) (traders_in t.replies) (traders_of ts)
    ∙ ap (λ n. n + count_by (λ (k : ℕ). eqb k m) (traders_of ts)) (traded_in m t.replies)
    ∙ ap (λ n. count_by is_execution (replies_among m t.replies) + n) (traded_all m ts)
    ∙ sym (sum_by-append (λ (x : Outbound). cond (is_execution x) 1 0) (replies_among m t.replies) (replies_of m ts))

trades_counted : (setup : Setup) (m : ℕ) (events : List Event) → count_by (λ (k : ℕ). eqb k m) (traders_of (output setup events)) ≡ trades_of setup m events
unfolding replies
trades_counted setup m events = traded_all m (output setup events)

-- ---- shares that rest hidden

-- the shares of a member's
abbrev pub shares_of : ℕ → Rested → ℕ
shares_of m r = cond (eqb r.member m) r.shares 0

rested_one : (m : ℕ) (all rs : List Reply) → sum_by (shares_of m) (rests_among all rs) ≡ sum_by (rested_by (replies_among m all)) (replies_among m rs)
rested_one m all [] = refl
rested_one m all (r ∷ rs) =
    sum_by-append (shares_of m) (rest_of all r.0 (hidden_in r.1)) (rests_among all rs)
    ∙ ap (λ n. sum_by (shares_of m) (rest_of all r.0 (hidden_in r.1)) + n) (rested_one m all rs)
    ∙ at (eqb r.0 m) refl (hidden_in r.1) refl
  where
    more : ℕ
    more = sum_by (rested_by (replies_among m all)) (replies_among m rs)

    one : (h : Hidden) → sum_by (shares_of m) (rest_of all r.0 (Some h)) + more ≡ cond (eqb r.0 m) (left_by h (replies_among r.0 all)) 0 + more
    one h = ap (λ n. n + more) (none_more (cond (eqb r.0 m) (left_by h (replies_among r.0 all)) 0))

    at : (c : Bool) → eqb r.0 m ≡ c → (o : Option Hidden) → hidden_in r.1 ≡ o
        → sum_by (shares_of m) (rest_of all r.0 o) + more ≡ sum_by (rested_by (replies_among m all)) (cond c (r.1 ∷ replies_among m rs) (replies_among m rs))
    at false p None q = none_more more
    at false p (Some h) q = one h ∙ ap (λ (b : Bool). cond b (left_by h (replies_among r.0 all)) 0 + more) p ∙ none_more more
    at true p None q =
        ap (λ (o : Option Hidden). Rattle.std.specs.Option.option_map_or (λ (h : Hidden). left_by h (replies_among m all)) o 0 + more) (sym q)
        ∙ sym (sum_by-cons (rested_by (replies_among m all)) r.1 (replies_among m rs))
    at true p (Some h) q =
        one h ∙ ap (λ (b : Bool). cond b (left_by h (replies_among r.0 all)) 0 + more) p
        ∙ ap (λ (k : ℕ). left_by h (replies_among k all) + more) ((Decides-eqb r.0 m).0 p)
        ∙ ap (λ (o : Option Hidden). Rattle.std.specs.Option.option_map_or (λ (x : Hidden). left_by x (replies_among m all)) o 0 + more) (sym q)
        ∙ sym (sum_by-cons (rested_by (replies_among m all)) r.1 (replies_among m rs))

rested_all : (m : ℕ) (ts : List EventOutput) → sum_by (shares_of m) (rests_of ts) ≡ sum_by (λ (t : EventOutput). rested_in (replies_among m t.replies)) ts
rested_all m [] = refl
rested_all m (t ∷ ts) =
    sum_by-append (shares_of m) (rests_among t.replies t.replies) (rests_of ts)
    ∙ ap (λ n. n + sum_by (shares_of m) (rests_of ts)) (rested_one m t.replies t.replies)
    ∙ ap (λ n. rested_in (replies_among m t.replies) + n) (rested_all m ts)
    ∙ sym (sum_by-cons (λ (u : EventOutput). rested_in (replies_among m u.replies)) t ts)

-- ---- all of them

pub tally_is : (day : Day) (es : List Entry) (m : ℕ) (tally : Tally) → IsDay day es
    → tally.messages ≡ counted (count_by (λ (k : Mark). eqb k.sender m) day.marks.items)
    → tally.chains ≡ counted (count_by (λ (c : ChainMark). eqb c.member m) day.chains.items)
    → tally.quiet ≡ counted (count_by (λ (c : ChainMark). eqb c.member m && c.quiet) day.chains.items)
    → tally.rested ≡ counted (sum_by (shares_of m) day.rested.items)
    → tally.trades ≡ counted (count_by (λ (k : ℕ). eqb k m) day.traded.items)
    → IsTally day.setup m (map event_of es) tally
tally_is day es m tally h messages chains quiet rested trades = record {
  messages = messages ∙ ap (λ (l : List Mark). counted (count_by (λ (k : Mark). eqb k.sender m) l)) h.marks_are ∙ ap counted (messages_counted day.setup m es);
  chains = chains ∙ ap counted (chains_counted (run day.setup (map event_of es)) m day.chains.items h.chains_are);
  quiet = quiet ∙ ap counted (quiet_counted (run day.setup (map event_of es)) m day.chains.items h.chains_are);
  rested = rested ∙ ap (λ (l : List Rested). counted (sum_by (shares_of m) l)) h.rested_are ∙ ap counted (rested_all m (output day.setup (map event_of es)));
  trades = trades ∙ ap (λ (l : List ℕ). counted (count_by (λ (k : ℕ). eqb k m) l)) h.traded_are ∙ ap counted (trades_counted day.setup m (map event_of es));
}
