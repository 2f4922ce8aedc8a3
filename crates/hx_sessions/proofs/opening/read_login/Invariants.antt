use Rattle.std.proofs.Common.{◌≡◌}
use mathlib.Core.List.{IsPrefix}
use Rattle.hx_sessions.specs.Logins.{AwaitsLogin}
use Rattle.hx_sessions.proofs.opening.read_login.Given as goal

abbrev pub invariant-loop-turn : goal.invariant-loop-turn
invariant-loop-turn g l = record {
  log : l.reader.log ≡ g.V.Venue.log;
  known : IsPrefix l.fn.reader.known l.reader.known;
  awaits : AwaitsLogin (g.R.Read.remaining l.fn.input) (g.R.Read.remaining l.input) l.framer l.retained;
}
