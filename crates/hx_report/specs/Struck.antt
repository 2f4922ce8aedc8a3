-- The lines that are struck, and those that are left.
use Rattle.std.specs.Prelude.{◌≡◌, List, length}
use Rattle.std.specs.List.{filter}
use Rattle.hx_market.specs.QuietChains.{Choice, bears}
use Rattle.hx_tape_lines.specs.Text.{Entry, tape}
use Rattle.hx_tape_lines.specs.Events.{event_of}
use Rattle.hx_replay.specs.Struck.{without_chosen}
use Rattle.hx_report.specs.declared.striking.Struck.{Struck}
use Rattle.hx_report.specs.Sums.{counted}

-- the lines whose event is a message that bears a chosen token
abbrev pub chosen_among : Choice → List Entry → List Entry
chosen_among choice es = filter (λ e. bears choice (event_of e)) es

-- of these lines those that bear a chosen token are counted, and the others are left
pub record HasStruck (choice : Choice) (struck : Struck) (es : List Entry) : Type 0 where
  pub text_is : struck.text.items ≡ tape (without_chosen choice es)
  pub gone_is : struck.gone ≡ counted (length (chosen_among choice es))
