-- What is noted of a day, event by event.
use Rattle.std.proofs.Common.{◌≡◌, ℕ, Bool, true, false, Result, cond, eqb, not, refl, sym, ap, ◌∙◌, subst, List, [], ◌∷◌, ◌++◌, map, append-nil, Option, Some, None}
use Rattle.std.specs.Prelude.{OnOk, is_err}
use Rattle.std.specs.Option.{option_map_or}
use Rattle.std.specs.List.{filter, cons_option, AllByRecursion}
use Rattle.std.proofs.lemmas.Grind.{flat_map-append}
use Rattle.std.proofs.lemmas.List.{map-append}
use Rattle.std.proofs.lemmas.List.Elements.{filter-append}
use Rattle.hx_units.specs.declared.names.Token.{Token}
use Rattle.hx_members.specs.Setups.{Setup}
use Rattle.hx_members.specs.Tokens.{facts_of}
use Rattle.hx_rules.specs.declared.event.Event.{Event}
use Rattle.hx_market.specs.Markets.{Market, opening}
use Rattle.hx_market.specs.MarketModel.{chain_facts}
use Rattle.hx_market.specs.Outputs.{Reply, EventOutput}
use Rattle.hx_market.specs.Refusals.{refusal}
use Rattle.hx_market.specs.Steps.{step, run, market_after, output, outputs_from}
use Rattle.hx_laws.proofs.History.EventMoves.{coherent_run}
use Rattle.hx_audit.specs.Facts.{are_loud}
use Rattle.hx_audit.specs.Listing.{Use, uses_of, tokens_in, output_chain, entered_in}
use Rattle.hx_audit.specs.Recording.{AreRecorded}
use Rattle.hx_audit.proofs.Recorded.{one_more}
use Rattle.hx_audit.proofs.Rooted.{output_run, none_listed}
use Rattle.hx_audit.proofs.Strangers.{users_are_members}
use Rattle.hx_report.specs.declared.census.Begun.{Begun}
use Rattle.hx_report.specs.declared.census.Census.{Census}
use Rattle.hx_report.specs.declared.census.ChainMark.{ChainMark}
use Rattle.hx_report.specs.declared.census.Notes.{Notes}
use Rattle.hx_report.specs.declared.rest.Rested.{Rested}
use Rattle.hx_report.specs.Noted.{traders_in, traders_of, rests_among, rests_of, entered_by, entered_among, quiet_among, is_quiet_chain, chain_mark, HasNoted, AreChains, IsCensus}
use Rattle.hx_report.proofs.Begun.{Begins, goes_on}
use Rattle.hx_report.proofs.Tapes.{on_ok}

-- ---- one event more

output_after : (setup : Setup) (a : Market) (events : List Event) (x : Event) → outputs_from setup a (events ++ x ∷ []) ≡ outputs_from setup a events ++ (step setup (market_after setup a events) x).output ∷ []
unfolding outputs_from market_after
output_after setup a [] x = refl
output_after setup a (e ∷ events) x = ap (λ (l : List EventOutput). (step setup a e).output ∷ l) (output_after setup (step setup a e).market events x)

output_more : (setup : Setup) (events : List Event) (x : Event) → output setup (events ++ x ∷ []) ≡ output setup events ++ (step setup (run setup events) x).output ∷ []
unfolding output run
output_more setup events x = output_after setup (opening setup) events x

entered_more : (m : ℕ) (begun : List Begun) (more : List Begun) → entered_among m (begun ++ more) ≡ entered_among m begun ++ entered_among m more
entered_more m begun more =
    ap (map (λ (b : Begun). b.entered)) (filter-append (λ (b : Begun). eqb b.member m) begun more)
    ∙ map-append (λ (b : Begun). b.entered) (filter (λ (b : Begun). eqb b.member m) begun) (filter (λ (b : Begun). eqb b.member m) more)

-- nothing is noted of nothing
pub nothing_noted : (setup : Setup) (notes : Notes) → notes.market.setup ≡ setup → notes.market.market ≡ opening setup → notes.begun.items ≡ [] → notes.rested.items ≡ [] → notes.traded.items ≡ []
    → HasNoted notes setup []
unfolding run market_after output outputs_from
nothing_noted setup notes s market begun rested traded = record {
  setup_is = s;
  recorded = tt;
  market_is = market;
  begun_are = λ m. ap (entered_among m) begun ∙ sym (ap entered_in (none_listed setup (opening setup) m refl));
  rested_are = rested;
  traded_are = traded;
}

-- what is noted of one event more
pub more_noted : (setup : Setup) (events : List Event) (x : Event) (old new : Notes) (o : Option Begun) → HasNoted old setup events
    → refusal old.market.setup old.market.market.recorded x ≡ None
    → new.market.setup ≡ old.market.setup
    → new.market.market ≡ (step old.market.setup old.market.market x).market
    → Begins old.market.market x o
    → new.begun.items ≡ old.begun.items ++ cons_option o []
    → new.rested.items ≡ old.rested.items ++ rests_among (step old.market.setup old.market.market x).output.replies (step old.market.setup old.market.market x).output.replies
    → new.traded.items ≡ old.traded.items ++ traders_in (step old.market.setup old.market.market x).output.replies
    → HasNoted new setup (events ++ x ∷ [])
more_noted setup events x old new o h passes same market begins begun rested traded =
    record {
      setup_is = same ∙ h.setup_is;
      recorded = more.0;
      market_is = more.1;
      begun_are = λ m.
          ap (entered_among m) begun ∙ entered_more m old.begun.items (cons_option o [])
          ∙ ap (λ (l : List Token). l ++ entered_among m (cons_option o [])) (h.begun_are m)
          ∙ sym (goes_on setup a x m o (coherent_run setup events) (output_run setup events m) (subst (λ (b : Market). Rattle.hx_audit.specs.Facts.AreOfMembers b.tokens) after (users_are_members setup (events ++ x ∷ []) more.0)) starts)
          ∙ ap (λ (b : Market). entered_by b m) (sym after);
      rested_are =
          rested ∙ ap (λ (l : List Rested). l ++ rests_among (step old.market.setup old.market.market x).output.replies (step old.market.setup old.market.market x).output.replies) h.rested_are
          ∙ ap (λ (t : EventOutput). rests_of (output setup events) ++ rests_among t.replies t.replies) tells
          ∙ one_rest (output setup events) (step setup a x).output ∙ sym (ap rests_of (output_more setup events x));
      traded_are =
          traded ∙ ap (λ (l : List ℕ). l ++ traders_in (step old.market.setup old.market.market x).output.replies) h.traded_are
          ∙ ap (λ (t : EventOutput). traders_of (output setup events) ++ traders_in t.replies) tells
          ∙ one_trade (output setup events) (step setup a x).output ∙ sym (ap traders_of (output_more setup events x));
    }
  where
    a : Market
    a = run setup events

    next : new.market.market ≡ (step setup old.market.market x).market
    next = market ∙ ap (λ (s : Setup). (step s old.market.market x).market) h.setup_is

    more : AreRecorded setup (events ++ x ∷ []) × (new.market.market ≡ run setup (events ++ x ∷ []))
    more = one_more setup events old.market.market new.market.market x h.recorded h.market_is (ap (λ (s : Setup). refusal s old.market.market.recorded x) (sym h.setup_is) ∙ passes) next

    after : run setup (events ++ x ∷ []) ≡ (step setup a x).market
    after = sym more.1 ∙ next ∙ ap (λ (b : Market). (step setup b x).market) h.market_is

    tells : (step old.market.setup old.market.market x).output ≡ (step setup a x).output
    tells = ap (λ (s : Setup). (step s old.market.market x).output) h.setup_is ∙ ap (λ (b : Market). (step setup b x).output) h.market_is

    starts : Begins a x o
    starts = subst (λ (b : Market). Begins b x o) h.market_is begins

    one_rest : (ts : List EventOutput) (t : EventOutput) → rests_of ts ++ rests_among t.replies t.replies ≡ rests_of (ts ++ t ∷ [])
    one_rest ts t =
        ap (λ (l : List Rested). rests_of ts ++ l) (sym (append-nil (rests_among t.replies t.replies))) ∙ sym (flat_map-append (λ (u : EventOutput). rests_among u.replies u.replies) ts (t ∷ []))

    one_trade : (ts : List EventOutput) (t : EventOutput) → traders_of ts ++ traders_in t.replies ≡ traders_of (ts ++ t ∷ [])
    one_trade ts t =
        ap (λ (l : List ℕ). traders_of ts ++ l) (sym (append-nil (traders_in t.replies))) ∙ sym (flat_map-append (λ (u : EventOutput). traders_in u.replies) ts (t ∷ []))

-- the same of an event that the market has applied, into lists that were empty
pub applied : {T E : Type 0} (setup : Setup) (events : List Event) (x : Event) (old new : Notes) (o : Option Begun) (r : Result T E) (empty filled one other : List Reply) → HasNoted old setup events
    → is_err r ≡ false
    → OnOk r (refusal old.market.setup old.market.market.recorded x ≡ None)
    → new.market.setup ≡ old.market.setup
    → OnOk r (new.market.market ≡ (step old.market.setup old.market.market x).market)
    → Begins old.market.market x o
    → empty ≡ [] → OnOk r (filled ≡ empty ++ (step old.market.setup old.market.market x).output.replies) → one ≡ filled → other ≡ filled
    → new.begun.items ≡ old.begun.items ++ cons_option o []
    → new.traded.items ≡ old.traded.items ++ traders_in one
    → new.rested.items ≡ old.rested.items ++ rests_among other other
    → HasNoted new setup (events ++ x ∷ [])
applied setup events x old new o r empty filled one other h passed passes same market begins none fills first second begun traded rested =
    more_noted setup events x old new o h (on_ok r _ passed passes) same (on_ok r _ passed market) begins begun
    (rested ∙ ap (λ (l : List Reply). old.rested.items ++ rests_among l l) (second ∙ all))
    (traded ∙ ap (λ (l : List Reply). old.traded.items ++ traders_in l) (first ∙ all))
  where
    all : filled ≡ (step old.market.setup old.market.market x).output.replies
    all = on_ok r _ passed fills ∙ ap (λ (l : List Reply). l ++ (step old.market.setup old.market.market x).output.replies) none

-- ---- the whole day

-- a chain of the list has a state
marks_output : (a : Market) (m : ℕ) (us : List Use) (ns : List Token)
    → AllByRecursion (λ (g : Token × List Token). chain_facts a.tokens a.chains m g.0 ≡ Some (facts_of a.chains m g.0)) (map (λ x. (x, tokens_in us x)) ns)
    → map (λ (e : Token). is_quiet_chain a (record { member = m; entered = e })) ns
    ≡ map (λ (c : Rattle.hx_audit.specs.declared.chain.Chain.Chain). not (are_loud c.facts)) (map (output_chain a.chains m) (map (λ x. (x, tokens_in us x)) ns))
marks_output a m us [] h = refl
marks_output a m us (n ∷ ns) h =
    (λ j. ap (λ (o : Option Rattle.hx_members.specs.ChainFacts.ChainFacts). option_map_or (λ facts. not (are_loud facts)) o false) h.0 j ∷ marks_output a m us ns h.1 j)

-- the marks of a member's chains
marks_among : (a : Market) (m : ℕ) (begun : List Begun) → quiet_among m (map (chain_mark a) begun) ≡ map (λ (e : Token). is_quiet_chain a (record { member = m; entered = e })) (entered_among m begun)
marks_among a m [] = refl
marks_among a m (b ∷ begun) = at (eqb b.member m) refl (marks_among a m begun)
  where
    at : (c : Bool) → eqb b.member m ≡ c → quiet_among m (map (chain_mark a) begun) ≡ map (λ (e : Token). is_quiet_chain a (record { member = m; entered = e })) (entered_among m begun)
        → map (λ (k : ChainMark). k.quiet) (cond c (chain_mark a b ∷ filter (λ (k : ChainMark). eqb k.member m) (map (chain_mark a) begun)) (filter (λ (k : ChainMark). eqb k.member m) (map (chain_mark a) begun)))
        ≡ map (λ (e : Token). is_quiet_chain a (record { member = m; entered = e })) (map (λ (x : Begun). x.entered) (cond c (b ∷ filter (λ (x : Begun). eqb x.member m) begun) (filter (λ (x : Begun). eqb x.member m) begun)))
    at false h ih = ih
    at true h ih =
        let same : b.member ≡ m = (Rattle.std.proofs.lemmas.Bool.Decides.Decides-eqb b.member m).0 h in
        (λ j. ap (λ (k : ℕ). is_quiet_chain a (record { member = k; entered = b.entered })) same j ∷ ih j)

-- the chains that are noted are those of the day
pub chains_noted : (setup : Setup) (events : List Event) (notes : Notes) → HasNoted notes setup events → AreChains (run setup events) (map (chain_mark notes.market.market) notes.begun.items)
chains_noted setup events notes h m =
    ap (λ (b : Market). quiet_among m (map (chain_mark b) notes.begun.items)) h.market_is
    ∙ marks_among (run setup events) m notes.begun.items
    ∙ ap (map (λ (e : Token). is_quiet_chain (run setup events) (record { member = m; entered = e }))) (h.begun_are m)
    ∙ marks_output (run setup events) m (uses_of (run setup events).tokens m) (entered_in (uses_of (run setup events).tokens m)) (output_run setup events m)

pub census_noted : (setup : Setup) (events : List Event) (notes : Notes) (census : Census) (begun : List Begun) → HasNoted notes setup events → begun ≡ notes.begun.items
    → census.chains.items ≡ map (chain_mark notes.market.market) begun → census.rested.items ≡ notes.rested.items → census.traded.items ≡ notes.traded.items → IsCensus census setup events
census_noted setup events notes census begun h its chains rested traded = record {
  chains_are = λ m. ap (quiet_among m) (chains ∙ ap (map (chain_mark notes.market.market)) its) ∙ chains_noted setup events notes h m;
  rested_are = rested ∙ h.rested_are;
  traded_are = traded ∙ h.traded_are;
}
