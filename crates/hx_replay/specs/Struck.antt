-- A tape without the messages of a member's quiet chains.
use Rattle.std.specs.Prelude.{ℕ, not, List, map}
use Rattle.std.specs.List.{filter}
use Rattle.hx_members.specs.Setups.{Setup}
use Rattle.hx_market.specs.Steps.{run}
use Rattle.hx_market.specs.QuietChains.{Choice, bears, is_quiet, quiet_of_one}
use Rattle.hx_audit.specs.declared.auditor.Whose.{Whose}
use Rattle.hx_audit.specs.Auditing.{choice_of}
use Rattle.hx_tape_lines.specs.Text.{Entry}
use Rattle.hx_tape_lines.specs.Events.{event_of}

-- the lines whose event is no message that bears a chosen token
abbrev pub without_chosen : Choice → List Entry → List Entry
without_chosen chosen entries = filter (λ e. not (bears chosen (event_of e))) entries

-- the lines that stay then
abbrev pub left_by : Setup → Whose → List Entry → List Entry
left_by setup whose entries =
    without_chosen (choice_of whose (run setup (map event_of entries))) entries

-- the lines that stay: those whose event is no message that bears a token of the member's chains that
-- the whole tape never displayed and never traded
unfoldable pub struck : Setup → ℕ → List Entry → List Entry
struck setup m entries =
    without_chosen (quiet_of_one m (run setup (map event_of entries))) entries

-- those that stay if the quiet chains of all members are struck
unfoldable pub struck_all : Setup → List Entry → List Entry
struck_all setup entries =
    without_chosen (is_quiet (run setup (map event_of entries))) entries
