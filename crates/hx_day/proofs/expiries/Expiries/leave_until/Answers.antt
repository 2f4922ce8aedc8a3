use Rattle.hx_day.proofs.Due.{walk_goes_on, holds_later, later_of_all, none_later, without_first, empty_from}
use Rattle.hx_day.proofs.expiries.Expiries.leave_until.Goals as goal

pub returns-then-first-time : goal.returns-then-first-time
returns-then-first-time c =
    holds_later c.args.self.now c.loop-first.self-inside.entries.keys c.args.time c.loop-first.invariant.0 c.loop-first.invariant.1
    (later_of_all c.args.time c.in-Some.first.now c.loop-first.self-inside.entries.keys c.if-first-time.true c.in-Some.ensures.all_from)

pub loop-first-preserved : goal.loop-first-preserved
loop-first-preserved c = (
  _,
  walk_goes_on c.args.self.now c.loop-first.self-inside.entries.keys c.pop_first.new.self.keys c.args.time c.loop-first.invariant.0 c.in-Some.first.now c.loop-first.invariant.1
      (without_first c.loop-first.self-inside.entries.keys c.pop_first.new.self.keys c.pop_first.result c.in-Some.first.now c.in-Some.ensures.first c.pop_first.ensures.variant.1 c.pop_first.ensures.removal)
      c.if-first-time.false,
)

pub returns : goal.returns
returns c =
    holds_later c.args.self.now c.loop-first.self-inside.entries.keys c.args.time c.loop-first.invariant.0 c.loop-first.invariant.1
    (none_later c.args.time c.loop-first.self-inside.entries.keys (empty_from c.loop-first.self-inside.entries.keys c.in_default.ensures.variant.1))
