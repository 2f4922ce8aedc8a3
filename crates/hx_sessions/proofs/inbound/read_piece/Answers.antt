use Rattle.std.proofs.Common.{◌≡◌, ℕ, List, [], ap, take, arith}
use Rattle.hx_sessions.specs.declared.ending.Fault.TheVariants as faults
use Rattle.hx_sessions.specs.declared.ending.Stop.TheVariants as stops
use Rattle.hx_sessions.proofs.Taking.{more_taken, receiving_retained, received_here, received_end, why_all}
use Rattle.hx_sessions.proofs.inbound.read_piece.Goals as goal

pub returns-then-not-is_passing-clause-more : goal.returns-then-not-is_passing-clause-more
returns-then-not-is_passing-clause-more g c = λ start first so_far.
    received_here c.args.trader.now.member _ _ _ _ _ (stops.Faulted faults.Read) (receiving_retained c.args.trader.now.member _ _ _ _ _ _ so_far c.in-Err.ensures.bytes) (λ ps ds a. why_all (g.R.Read.remaining c.read.new.self) faults.Read ps ds a)

pub returns-in-Ok-eq0-clause-more : goal.returns-in-Ok-eq0-clause-more
returns-in-Ok-eq0-clause-more g c = λ start first so_far.
    let e = c.in-Ok-eq0.ensures.bytes in
    let none : take c.in-Ok-eq0.field-0 c.read.new.buf ≡ [] = ap (λ n. take n c.read.new.buf) c.in-Ok-eq0.field-0-test in
    received_end c.args.trader.now.member _ _ _ _ (take c.in-Ok-eq0.field-0 c.read.new.buf) _ _ so_far none e.0 (e.1 c.in-Ok-eq0.field-0-test (omega (arith, c.requires.room)))

pub returns-in-Ok-clause-more : goal.returns-in-Ok-clause-more
returns-in-Ok-clause-more g c =
    more_taken c.args.trader.now.member (g.R.Read.remaining c.args.inbox.now.input) (g.R.Read.remaining c.read.new.self) c.args.framer.now c.take.new.framer _ c.args.inbox.now.sender.pass.sent c.take.new.sender.pass.sent c.take.result c.in-Ok.ensures.bytes.0 c.take.ensures.takes
