use Rattle.hx_replay_parallel.specs.Ahead.{TakesLines}
use Rattle.hx_replay_parallel.proofs.decoding.Ahead.take_lines.Given as goal

abbrev pub invariant-loop : goal.invariant-loop
invariant-loop l = TakesLines l.fn.text l.fn.self l.self l.rest
