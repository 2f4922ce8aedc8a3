-- The lines of a piece, of which the first ones are applied in turns.
use Rattle.std.proofs.Common.{◌≡◌, ℕ, ◌+◌, ◌-◌, ◌<◌, ◌≤◌, List, ◌++◌, length, drop, Option, sym, ◌∙◌}
use Rattle.std.specs.Io.KnownBytes.{Consumes}
use Rattle.hx_members.specs.Setups.{Setup}
use Rattle.hx_units.specs.Cuts.{Lacks}
use Rattle.hx_replay.specs.declared.fault.TapeError.{TapeError}
use Rattle.hx_replay.specs.declared.fault.TapeError.TheVariants as fault
use Rattle.hx_tape_lines.specs.declared.fault.Kind.TheVariants as kinds
use Rattle.hx_tape_lines.specs.Text.{longest_line}
use Rattle.hx_replay.specs.Run.{Progress, Replays, Stops}
use Rattle.hx_replay.specs.Whole.{StopsAt}
use Rattle.hx_replay.proofs.PieceByPiece.{SoFar, rest_of, so_far_applied, stops_in_text, stops_long}
use Rattle.hx_replay_parallel.proofs.Turning.{replays_on, stops_on}

-- the replay ends after them
pub stops_later_turns : (setup : Setup) (r s s' w v x u : Option (List ℕ)) (c d : Progress) (pending piece text rest : List ℕ) (e : TapeError) → SoFar setup r s w v c pending → Consumes s s' piece → text ≡ pending ++ piece → Replays c d text v x rest
    → Stops ⊥ d rest x u e → StopsAt setup e r s' w u
stops_later_turns setup r s s' w v x u c d pending piece text rest e h took is turns stops = stops_in_text setup r s s' w v u c pending piece text e h took is (stops_on c d text rest v x u e turns stops)

-- more bytes than those of a line lack a line feed
pub stops_long_after : (setup : Setup) (r s s' w v x u : Option (List ℕ)) (c d d' : Progress) (pending piece text rest last : List ℕ) → SoFar setup r s w v c pending → Consumes s s' piece → text ≡ pending ++ piece → Replays c d text v x rest
    → Replays d d' rest x u last → Lacks 10 last → longest_line < length last → StopsAt setup (fault.Line (d'.events + 1) kinds.Bad) r s' w u
stops_long_after setup r s s' w v x u c d d' pending piece text rest last h took is turns more none long =
    stops_long setup r s s' w v u c d' pending piece text last h took is (replays_on c d d' text rest last v x u turns more) none long

-- all are applied, and this text is retained
pub so_far_after : (setup : Setup) (r s s' w v x u : Option (List ℕ)) (c d d' : Progress) (pending piece text rest last retained : List ℕ) → SoFar setup r s w v c pending → Consumes s s' piece → text ≡ pending ++ piece → Replays c d text v x rest
    → Replays d d' rest x u last → Lacks 10 last → length last ≤ longest_line → retained ≡ drop (length rest - length last) rest → SoFar setup r s' w u d' retained
so_far_after setup r s s' w v x u c d d' pending piece text rest last retained h took is turns more none fits keeps =
    let all = replays_on c d d' text rest last v x u turns more in
    let same : retained ≡ drop (length text - length last) text = keeps ∙ rest_of d d' rest x u last more ∙ sym (rest_of c d' text v u last all) in
    so_far_applied setup r s s' w v u c d' pending piece text last retained h took is all none fits same
