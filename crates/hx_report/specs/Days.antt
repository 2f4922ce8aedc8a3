-- A day: its tape, its output, and what a strike sees of its lines.
use Rattle.std.specs.Prelude.{◌≡◌, ℕ, ⊤, List, map, length, Option, Some}
use Rattle.hx_members.specs.Setups.{Setup}
use Rattle.hx_market.specs.Steps.{run, output}
use Rattle.hx_audit.specs.Auditing.{choice_of}
use Rattle.hx_audit.specs.declared.auditor.Whose.{Whose}
use Rattle.hx_tape_lines.specs.Text.{Entry, tape}
use Rattle.hx_tape_lines.specs.Events.{event_of}
use Rattle.hx_replay.specs.declared.fault.TapeError.{TapeError}
use Rattle.hx_replay.specs.declared.fault.TapeError.TheVariants as fault
use Rattle.hx_replay.specs.Run.{start, after_all, output_all, counts_of, AreEvents}
use Rattle.hx_replay.specs.Struck.{left_by}
use Rattle.hx_replay.specs.FirstFaults.{StopsBefore}
use Rattle.hx_report.specs.declared.day.Day.{Day}
use Rattle.hx_report.specs.declared.check.Check.{Check}
use Rattle.hx_report.specs.Looks.{Look, pick_of}
use Rattle.hx_report.specs.Marks.{marks_of}
use Rattle.hx_report.specs.Noted.{AreChains, rests_of, traders_of}
use Rattle.hx_report.specs.Struck.{chosen_among}
use Rattle.hx_report.specs.Sums.{counted, Compares}

-- these are the day's events, and the day has their tape, their output, and what is noted of them
pub record IsDay (day : Day) (es : List Entry) : Type 0 where
  pub are_events : AreEvents (start day.setup) es
  pub text_is : day.text.items ≡ tape es
  pub output_is : day.output.items ≡ output_all (start day.setup) es
  pub counts_are : day.counts ≡ counts_of (after_all (start day.setup) es)
  pub marks_are : day.marks.items ≡ marks_of day.setup es
  pub chains_are : AreChains (run day.setup (map event_of es)) day.chains.items
  pub rested_are : day.rested.items ≡ rests_of (output day.setup (map event_of es))
  pub traded_are : day.traded.items ≡ traders_of (output day.setup (map event_of es))

-- why a text is no day: the first line that fails a check, or memory
abbrev pub IsNoDay : Setup → (text : List ℕ) → TapeError → Type 0
IsNoDay setup text (fault.Line n k) =
    (s : Option (List ℕ)) × StopsBefore setup n k (Some text) s
IsNoDay setup text fault.NoMemory = ⊤
IsNoDay setup text fault.Read = ⊤
IsNoDay setup text fault.Write = ⊤
IsNoDay setup text fault.Turns = ⊤

-- The check of a day: how many lines are struck with these quiet chains, and the lines that one reader gets of the day
-- beside those without them.
pub record IsCheck (setup : Setup) (es : List Entry) (whose : Whose) (look : Look) (check : Check)
    : Type 0 where
  pub struck : check.struck
      ≡ counted (length (chosen_among (choice_of whose (run setup (map event_of es))) es))
  pub compares :
      Compares (pick_of look) (output_all (start setup) es)
      (output_all (start setup) (left_by setup whose es)) check.comparison
