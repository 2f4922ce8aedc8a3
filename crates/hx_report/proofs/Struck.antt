-- Lines that are struck one by one.
use Rattle.std.proofs.Common.{◌≡◌, ℕ, ◌+◌, ◌-◌, Bool, true, false, not, ◌&&◌, ◌||◌, eqb, List, [], ◌∷◌, ◌++◌, map, Option, Some, None, refl, sym, ap, ◌∙◌, append_assoc}
use Rattle.std.specs.Prelude.{◌^◌}
use Rattle.std.proofs.lemmas.Bool.Decides.{Decides-eqb}
use Rattle.std.proofs.lemmas.List.{map-append}
use Rattle.hx_ouch.specs.declared.inbound.Inbound.{Inbound}
use Rattle.hx_ouch.specs.declared.inbound.Inbound.TheVariants.{Enter, Replace, Cancel}
use Rattle.hx_ouch.specs.Inbound.{inbound_of}
use Rattle.hx_rules.specs.declared.event.Event.{Event}
use Rattle.hx_rules.specs.declared.event.Event.TheVariants.{Message, Tick, Hours, Halt, Break}
use Rattle.hx_market.specs.Markets.{Market}
use Rattle.hx_market.specs.Steps.{sender}
use Rattle.hx_market.specs.QuietChains.{message_bears, bears, is_quiet, quiet_of_one}
use Rattle.hx_audit.specs.Auditing.{choice_of}
use Rattle.hx_audit.specs.declared.auditor.Whose.{Whose}
use Rattle.hx_tape_lines.specs.Text.{Entry, line, tape}
use Rattle.hx_tape_lines.specs.Events.{event_of}
use Rattle.hx_report.specs.declared.striking.Struck.{Struck}
use Rattle.hx_report.specs.declared.marks.Mark.{Mark}
use Rattle.hx_report.specs.Marks.{mark_of}
use Rattle.hx_report.specs.Struck.{HasStruck}

never : (b : Bool) → false ≡ (b && false)
never true = refl
never false = refl

both : (b p q : Bool) → ((b && p) || (b && q)) ≡ (b && (p || q))
both true p q = refl
both false p q = refl

message_by_one : (m k : ℕ) (market : Market) (x : Option Inbound) → message_bears (quiet_of_one m market) k x ≡ (eqb k m && message_bears (is_quiet market) k x)
unfolding quiet_of_one
message_by_one m k market None = never (eqb k m)
message_by_one m k market (Some (Enter e)) = refl
message_by_one m k market (Some (Replace r)) = both (eqb k m) (is_quiet market k r.existing_token) (is_quiet market k r.replacement_token)
message_by_one m k market (Some (Cancel c)) = refl

-- a message bears a quiet token of one member if it is that member's, and bears a quiet one
pub borne_by_one : (m : ℕ) (market : Market) (event : Event) → bears (quiet_of_one m market) event ≡ (eqb (sender event) m && bears (is_quiet market) event)
borne_by_one m market (Message k time bytes) = message_by_one m k market (inbound_of bytes)
borne_by_one m market (Tick time) = never (eqb 0 m)
borne_by_one m market (Hours time code) = never (eqb 0 m)
borne_by_one m market (Halt time stock state reason) = never (eqb 0 m)
borne_by_one m market (Break time number) = never (eqb 0 m)

pub struck_by_one : (m : ℕ) (market : Market) (event : Event) (mark : Mark) → mark ≡ mark_of market event → (eqb mark.sender m && mark.quiet) ≡ bears (quiet_of_one m market) event
struck_by_one m market event mark is = ap (λ (k : Mark). eqb k.sender m && k.quiet) is ∙ sym (borne_by_one m market event)

-- the same if the mark is of that member, and if it is of another
pub struck_of_him : (m r : ℕ) (market : Market) (event : Event) (mark : Mark) → r ≡ m → mark ≡ mark_of market event → mark.sender ≡ r → mark.quiet ≡ bears (quiet_of_one m market) event
struck_of_him m r market event mark one is his = ap (λ (b : Bool). b && mark.quiet) (sym ((Decides-eqb mark.sender m).1 (his ∙ one))) ∙ struck_by_one m market event mark is

pub struck_of_another : (m r : ℕ) (market : Market) (event : Event) (mark : Mark) → r ≡ m → mark ≡ mark_of market event → (mark.sender ≡ r → ⊥) → eqb mark.sender r ≡ bears (quiet_of_one m market) event
struck_of_another m r market event mark one is other = ap (eqb mark.sender) one ∙ at (eqb mark.sender m) refl ∙ struck_by_one m market event mark is
  where
    at : (b : Bool) → eqb mark.sender m ≡ b → b ≡ (b && mark.quiet)
    at true e = absurd (other ((Decides-eqb mark.sender m).0 e ∙ sym one))
    at false e = refl

-- ---- a whole tape

-- the marks of these lines
abbrev pub seen_so : Market → List Entry → List Mark
seen_so market es = map (λ e. mark_of market (event_of e)) es

-- what is struck so far, and the marks of the later lines
pub record StruckSoFar (market : Market) (whose : Whose) (struck : Struck) (after : List Mark) (whole done : List Entry) : Type 0 where
  pub has : HasStruck (choice_of whose market) struck done
  pub marks : seen_so market whole ≡ seen_so market done ++ after

off : (a x y : List Mark) → a ++ x ≡ a ++ y → x ≡ y
off [] x y e = e
off (b ∷ a) x y e = off a x y (let z : b ∷ (a ++ x) ≡ b ∷ (a ++ y) = e in cc)

-- the later marks are those of the later lines
pub after_is : (market : Market) (after : List Mark) (whole done : List Entry) (e : Entry) (left : List Entry) → whole ≡ done ++ e ∷ left → seen_so market whole ≡ seen_so market done ++ after
    → after ≡ mark_of market (event_of e) ∷ seen_so market left
after_is market after whole done e left all is =
    off (seen_so market done) after (mark_of market (event_of e) ∷ seen_so market left)
    (sym is ∙ ap (seen_so market) all ∙ map-append (λ x. mark_of market (event_of x)) done (e ∷ left))

pub marks_more : (market : Market) (after more : List Mark) (whole done : List Entry) (e : Entry) (left : List Entry) → whole ≡ done ++ e ∷ left → more ≡ seen_so market left
    → seen_so market whole ≡ seen_so market (done ++ e ∷ []) ++ more
marks_more market after more whole done e left all is =
    ap (seen_so market) (all ∙ sym (append_assoc done (e ∷ []) left)) ∙ map-append (λ x. mark_of market (event_of x)) (done ++ e ∷ []) left
    ∙ ap (λ (l : List Mark). seen_so market (done ++ e ∷ []) ++ l) (sym is)
