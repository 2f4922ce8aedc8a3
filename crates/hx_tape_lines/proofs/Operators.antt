-- What is no line of the operator.
use Rattle.std.proofs.Common.{◌≡◌, ℕ, List, Option, Some, None, sym, ap, ◌∙◌}
use Rattle.std.specs.Prelude.{◌≢◌, IfNone}
use Rattle.hx_rules.specs.declared.event.Event.{Event}
use Rattle.hx_rules.specs.OperatorMessages.{operator_event}
use Rattle.hx_tape_lines.specs.Text.{Entry, IsEntry, line}
use Rattle.hx_tape_lines.specs.Operators.{IsNoOperatorLine}
use Rattle.hx_tape_lines.proofs.OneLine.{line_same}

-- the line of another member
pub other_member : (text : List ℕ) (e : Entry) → (text ≡ line e) × IsEntry e → e.member ≢ 0 → IsNoOperatorLine text
other_member text e found other event h =
    other (ap (λ (x : Entry). x.member) (line_same e h.entry found.1 h.is_entry (sym found.0 ∙ h.text_is)) ∙ h.operator)

-- the line of bytes that say nothing
pub says_nothing : (text : List ℕ) (e : Entry) (o : Option Event) → (text ≡ line e) × IsEntry e → o ≡ operator_event e.time e.bytes → IfNone o (IsNoOperatorLine text)
says_nothing text e (Some v) found is = tt
says_nothing text e None found is = λ event h.
    let same = line_same e h.entry found.1 h.is_entry (sym found.0 ∙ h.text_is) in
    let bad : None ≡ Some event = is ∙ ap (λ (x : Entry). operator_event x.time x.bytes) same ∙ h.says in
    cc
