use Rattle.std.proofs.Common.{List, map, refl, sym, subst}
use Rattle.std.specs.List.{AllByRecursion}
use Rattle.hx_members.specs.Setups.{Setup}
use Rattle.hx_audit.specs.Recording.{AreRecorded}
use Rattle.hx_tape_lines.specs.Text.{Entry}
use Rattle.hx_tape_lines.specs.Events.{event_of, IsKnown}
use Rattle.hx_replay.specs.Histories.{IsReplayed}
use Rattle.hx_replay.proofs.NoTrace.{texts_are}
use Rattle.hx_replay.proofs.Strikes.{entries_back, recorded}
use Rattle.hx_replay.proofs.laws.a_history_is_a_tape.Goals as goal

replayed : (setup : Setup) (es : List Entry) → AllByRecursion IsKnown es → AreRecorded setup (map event_of es) → IsReplayed setup (map event_of es) es
replayed setup es known recorded_whole = record {
  same = refl;
  taken = recorded setup es known recorded_whole;
  output = texts_are setup es;
}

pub returns : goal.returns
returns c setup es known recorded_whole =
    subst (λ (entries : List Entry). IsReplayed setup (map event_of es) entries) (sym (entries_back es known)) (replayed setup es known recorded_whole)
