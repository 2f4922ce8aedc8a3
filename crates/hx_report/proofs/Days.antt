-- A text that is no day, and the check of a day.
use Rattle.std.proofs.Common.{◌≡◌, ℕ, ◌+◌, List, map, length, Option, Some, ◌∙◌, subst, arith}
use Rattle.std.specs.List.{AllByRecursion}
use Rattle.hx_members.specs.Setups.{Setup}
use Rattle.hx_market.specs.Markets.{Market}
use Rattle.hx_market.specs.Steps.{run}
use Rattle.hx_audit.specs.Auditing.{choice_of}
use Rattle.hx_audit.specs.declared.auditor.Whose.{Whose}
use Rattle.hx_tape_lines.specs.Text.{Entry, tape}
use Rattle.hx_tape_lines.specs.Events.{IsKnown, event_of}
use Rattle.hx_replay.specs.declared.fault.TapeError.{TapeError}
use Rattle.hx_replay.specs.declared.fault.TapeError.TheVariants as fault
use Rattle.hx_replay.specs.Run.{start, output_all, AreEvents}
use Rattle.hx_replay.specs.Struck.{left_by}
use Rattle.hx_replay.specs.Whole.{StopsAt}
use Rattle.hx_replay.proofs.StruckTapes.{all_known}
use Rattle.hx_report.specs.declared.check.Check.{Check}
use Rattle.hx_report.specs.declared.day.Day.{Day}
use Rattle.hx_report.specs.declared.marks.Mark.{Mark}
use Rattle.hx_report.specs.declared.striking.Struck.{Struck}
use Rattle.hx_report.specs.Days.{IsDay, IsNoDay, IsCheck}
use Rattle.hx_report.specs.Looks.{Look, Pick, pick_of}
use Rattle.hx_report.specs.Marks.{mark_of}
use Rattle.hx_report.specs.Struck.{HasStruck}
use Rattle.hx_report.specs.Sums.{Compares}
use Rattle.hx_report.proofs.Checking.{left_events}

-- ---- a text that is no day

not_day : (setup : Setup) (text : List ℕ) (s w v : Option (List ℕ)) (e : TapeError) → StopsAt setup e (Some text) s w v → IsNoDay setup text e
unfolding start
not_day setup text s w v (fault.Line n k) h =
    let index : n ≡ 0 + length h.stops.events + 1 = h.stops.why.1 in (
      s,
      record {
        text = h.text;
        read = h.read;
        fault = record {
          events = h.stops.events;
          are_events = h.stops.are_events;
          rest = h.stops.rest;
          text_is = h.stops.text_is;
          number = omega (arith, index);
          why = h.stops.why.2;
        };
      },
    )
not_day setup text s w v fault.NoMemory h = tt
not_day setup text s w v fault.Read h = tt
not_day setup text s w v fault.Write h = tt
not_day setup text s w v fault.Turns h = tt

pub no_day : (setup : Setup) (text read : List ℕ) (s w v : Option (List ℕ)) (e : TapeError) → read ≡ text → StopsAt setup e (Some read) s w v → IsNoDay setup text e
no_day setup text read s w v e same h = subst (λ (x : List ℕ). IsNoDay setup x e) same (not_day setup read s w v e h)

-- ---- the check of a day

pub is_check : (day : Day) (es : List Entry) (whose : Whose) (look : Look) (pick : Pick) (struck : Struck) (text left whole written other : List ℕ) (marks : List Mark) (check : Check) → IsDay day es → pick ≡ pick_of look
    → text ≡ day.text.items → marks ≡ day.marks.items
    → ((market : Market) (fs : List Entry) → AllByRecursion IsKnown fs → text ≡ tape fs → marks ≡ map (λ e. mark_of market (event_of e)) fs → HasStruck (choice_of whose market) struck fs)
    → left ≡ struck.text.items
    → ((fs : List Entry) → AreEvents (start day.setup) fs → left ≡ tape fs → written ≡ output_all (start day.setup) fs)
    → whole ≡ day.output.items → other ≡ written → check.struck ≡ struck.gone → Compares pick whole other check.comparison
    → IsCheck day.setup es whose look check
is_check day es whose look pick struck text left whole written other marks check h picks text_is marks_are strikes left_is replays whole_is other_is gone compares =
    let market : Market = run day.setup (map event_of es) in
    let has : HasStruck (choice_of whose (run day.setup (map event_of es))) struck es =
    strikes market es (all_known (start day.setup) es h.are_events) (text_is ∙ h.text_is) (marks_are ∙ h.marks_are) in
    let output : other ≡ output_all (start day.setup) (left_by day.setup whose es) =
    other_is ∙ replays (left_by day.setup whose es) (left_events day.setup whose es h.are_events) (left_is ∙ has.text_is) in
    record {
      struck = gone ∙ has.gone_is;
      compares =
          subst (λ (x : List ℕ). Compares (pick_of look) (output_all (start day.setup) es) x check.comparison) output
          (subst (λ (x : List ℕ). Compares (pick_of look) x other check.comparison) (whole_is ∙ h.output_is)
          (subst (λ (x : Pick). Compares x whole other check.comparison) picks compares));
    }
