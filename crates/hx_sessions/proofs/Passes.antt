-- What stays of a pass.
use Rattle.std.proofs.Common.{◌≡◌, ℕ, zero, suc, List, [], ◌++◌, ◌+◌, length, take, Bool, true, false, refl, ap, sym, ◌∙◌, subst, append_assoc}
use Rattle.std.proofs.Math.Seq.{take-append-add}
use mathlib.Core.List.{IsPrefix}
use Rattle.hx_members.specs.Setups.{Setup}
use Rattle.hx_rules.specs.declared.event.Event.{Event}
use Rattle.hx_desk.specs.declared.entry.Done.{Done}
use Rattle.hx_desk.specs.Entries.{ledger}
use Rattle.hx_engine.specs.Passes.{PassState, sent_by}
use Rattle.hx_engine.specs.Exchanges.{SendsAll, SendsFirst, SendsTurn, Stays}
use Rattle.hx_engine.proofs.PassLaws.{ledger_more}
use Rattle.hx_sessions.specs.Asked.{CarriesOn, SendsOn, SendsSome}
use Rattle.hx_sessions.proofs.Taking.{sends_none, sends_placed, sends_join}
use Rattle.hx_units.proofs.Prefixes.{prefix_self, prefix_trans}

pub carries_none : (may : Bool) (p : PassState) → CarriesOn may p p
carries_none may p = record { number = refl; known = prefix_self p.known; silent = λ e. refl }

pub carries_more : (may : Bool) (a b c : PassState) → CarriesOn may a b → CarriesOn may b c → CarriesOn may a c
carries_more may a b c p q = record {
  number = q.number ∙ p.number;
  known = prefix_trans a.known b.known c.known p.known q.known;
  silent = λ e. q.silent e ∙ p.silent e;
}

-- a login that may send has no silence to preserve
pub carries_true : (may : Bool) (old new : PassState) → CarriesOn may old new → CarriesOn true old new
carries_true may old new p = record { number = p.number; known = p.known; silent = λ e. absurd (cc e) }

pub carries_all : (setup : Setup) (may : Bool) (old new : PassState) (events : List Event) (done : Done) → (may ≡ false → ⊥) → SendsAll setup old new events done → CarriesOn may old new
carries_all setup may old new events done some s =
    let others = sent_by old.number events ++ s.after in
    let more : IsPrefix old.known (ledger setup (s.before ++ others)) =
    prefix_trans old.known (ledger setup s.before) (ledger setup (s.before ++ others)) s.knew (ledger_more setup s.before others) in
    record { number = s.number; known = subst (IsPrefix old.known) (sym s.knows) more; silent = λ e. absurd (some e) }

pub carries_stays : (may : Bool) (old new : PassState) → Stays old new → CarriesOn may old new
carries_stays may old new s = record {
  number = s.number;
  known = subst (IsPrefix old.known) (sym s.known) (prefix_self old.known);
  silent = λ e. s.sent;
}

pub carries_first : (setup : Setup) (may : Bool) (old new : PassState) (events : List Event) (count : ℕ) → (may ≡ false → ⊥) → SendsFirst setup old new events count → CarriesOn may old new
carries_first setup may old new events zero some s = carries_stays may old new s
carries_first setup may old new events (suc n) some (done, s) = carries_all setup may old new (take (suc n) events) done some s

-- a login that may send has no silence to preserve
pub carries_may : (may : Bool) (old new : PassState) → (may ≡ false → ⊥) → CarriesOn true old new → CarriesOn may old new
carries_may may old new some p = record { number = p.number; known = p.known; silent = λ e. absurd (some e) }

pub sends_all : (setup : Setup) (old new : PassState) (events : List Event) (done : Done) → SendsAll setup old new events done → SendsOn old.sent new.sent events
sends_all setup old new events done s = sends_placed old.sent new.sent (length s.before) events s.sent

pub sends_first : (setup : Setup) (old new : PassState) (events : List Event) (count : ℕ) → SendsFirst setup old new events count → SendsSome old.sent new.sent events
sends_first setup old new events zero s = (0, subst (λ l. SendsOn old.sent l []) (sym s.sent) (sends_none old.sent))
sends_first setup old new events (suc n) (done, s) = (suc n, sends_placed old.sent new.sent (length s.before) (take (suc n) events) s.sent)

-- events that were sent before others, with the first of which they were all
pub sends_before : (a b c : List (ℕ × Event)) (all front left : List Event) → SendsOn a b front → all ≡ front ++ left → SendsSome b c left → SendsSome a c all
sends_before a b c all front left s is (count, t) =
    (length front + count, subst (SendsOn a c) (sym (take-append-add front left count) ∙ ap (take (length front + count)) (sym is)) (sends_join a b c front (take count left) s t))

no_silence : true ≡ false → ⊥
no_silence e = cc

-- what is left of all events, once those before it are sent
abbrev pub IsLeft : (old new : PassState) → (all left : List Event) → Type 0
IsLeft old new all left =
    (front : List Event) × (all ≡ front ++ left) × SendsOn old.sent new.sent front

-- another turn sends the first of what is left
pub turn_on : (setup : Setup) (old mid new : PassState) (all left rest : List Event) (done : Done) → CarriesOn true old mid → IsLeft old mid all left → SendsTurn setup mid new left rest done
    → CarriesOn true old new × IsLeft old new all rest
turn_on setup old mid new all left rest done p (front, is, s) t = (
  carries_more true old mid new p (carries_all setup true mid new t.sent done no_silence t.sends),
  (front ++ t.sent, is ∙ ap (λ (l : List Event). front ++ l) t.splits ∙ sym (append_assoc front t.sent rest), sends_join old.sent mid.sent new.sent front t.sent s (sends_all setup mid new t.sent done t.sends)),
)

-- or is refused after `count` events of it
pub turn_off : (setup : Setup) (old mid new : PassState) (all left : List Event) (count : ℕ) → CarriesOn true old mid → IsLeft old mid all left → SendsFirst setup mid new left count
    → CarriesOn true old new × SendsSome old.sent new.sent all
turn_off setup old mid new all left count p (front, is, s) retained = (
  carries_more true old mid new p (carries_first setup true mid new left count no_silence retained),
  sends_before old.sent mid.sent new.sent all front left s is (sends_first setup mid new left count retained),
)
