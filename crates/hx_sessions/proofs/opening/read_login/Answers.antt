use Rattle.std.proofs.Common.{ℕ, ◌+◌, Option, List, sym, ◌∙◌, subst, arith}
use Rattle.hx_sessions.specs.Frames.{day_over}
use Rattle.hx_sessions.specs.Logins.{AwaitsLogin}
use Rattle.hx_sessions.proofs.Logging.{awaits_none, awaits_more, awaits_login, awaits_stop, awaits_end, space_fits}
use Rattle.hx_sessions.proofs.opening.read_login.Goals as goal
use Rattle.hx_units.proofs.Prefixes.{prefix_self, prefix_trans}

pub loop-turn-init : goal.loop-turn-init
loop-turn-init g c =
    let a = g.R.Read.remaining c.args.input.now in
    record {
      log = c.requires;
      known = prefix_self c.args.reader.now.known;
      awaits = subst (λ (f : Option (List ℕ)). AwaitsLogin a a f 0) (sym c.new-framer.ensures) (awaits_none a);
    }

pub returns-in-Ok-Some-default-clause-ok : goal.returns-in-Ok-Some-default-clause-ok
returns-in-Ok-Some-default-clause-ok g c =
    let most = space_fits c.loop-turn.retained c.loop-turn.buffer (omega (arith, c.if-retained-ge-LOGIN.false)) in
    let read = rw c.in-Ok-Some-default.field-0-0-is at c.in-Ok-Some-default.ensures.ok in
    awaits_login _ _ _ c.loop-turn.framer c.read_more.new.framer c.loop-turn.retained _ c.in-Ok-Some-default._count c.in-Ok-Some-default.login c.loop-turn.invariant.awaits most read

pub returns-in-Err-clause-err : goal.returns-in-Err-clause-err
returns-in-Err-clause-err g c = awaits_stop _ _ _ _ c.loop-turn.framer c.loop-turn.retained c.in-Err.stop c.loop-turn.invariant.awaits c.in-Err.ensures.err

pub returns-then-is_some-clause-err : goal.returns-then-is_some-clause-err
returns-then-is_some-clause-err g c =
    let read = rw c.in-Ok-None-default.field-0-0-is at c.in-Ok-None-default.ensures.ok in
    let more = awaits_more _ _ _ c.loop-turn.framer c.read_more.new.framer c.loop-turn.retained _ c.in-Ok-None-default.count c.loop-turn.invariant.awaits read in
    (more.bytes, more.read)

pub returns-then-is_over-clause-known : goal.returns-then-is_over-clause-known
returns-then-is_over-clause-known g c = prefix_trans c.args.reader.now.known c.loop-turn.reader.known c.is_over.new.reader.known c.loop-turn.invariant.known c.is_over.ensures.reader.known

pub returns-then-is_over-clause-err : goal.returns-then-is_over-clause-err
returns-then-is_over-clause-err g c =
    let read = rw c.in-Ok-None-default.field-0-0-is at c.in-Ok-None-default.ensures.ok in
    let more = awaits_more _ _ _ c.loop-turn.framer c.read_more.new.framer c.loop-turn.retained _ c.in-Ok-None-default.count c.loop-turn.invariant.awaits read in
    awaits_end (day_over g.V.Venue.setup c.is_over.new.reader.known) _ _ c.read_more.new.framer (c.loop-turn.retained + c.in-Ok-None-default.count) more (sym c.is_over.ensures.over ∙ c.if-is_over.true)

pub loop-turn-preserved : goal.loop-turn-preserved
loop-turn-preserved g c =
    let read = rw c.in-Ok-None-default.field-0-0-is at c.in-Ok-None-default.ensures.ok in
    record {
      log = c.is_over.ensures.reader.log ∙ c.loop-turn.invariant.log;
      known = prefix_trans c.args.reader.now.known c.loop-turn.reader.known c.is_over.new.reader.known c.loop-turn.invariant.known c.is_over.ensures.reader.known;
      awaits = awaits_more _ _ _ c.loop-turn.framer c.read_more.new.framer c.loop-turn.retained _ c.in-Ok-None-default.count c.loop-turn.invariant.awaits read;
    }
