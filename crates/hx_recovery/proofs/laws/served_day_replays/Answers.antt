use Rattle.hx_recovery.proofs.Replaying.{replay_is_such, served_day_replays, no_line_stops}
use Rattle.hx_recovery.proofs.laws.served_day_replays.Goals as goal

pub returns : goal.returns
returns c = record { contract = replay_is_such; same = served_day_replays; no_line = no_line_stops }
