use Rattle.std.proofs.Common.{arith}
use Rattle.hx_ranked.proofs.Lists.{before-read, after-read}
use Rattle.hx_ranked.proofs.entries.lower_bound.Goals as goal

pub loop-low-preserved-then-entries-middle : goal.loop-low-preserved-then-entries-middle
loop-low-preserved-then-entries-middle c = record {
  ordered = omega arith;
  inside = c.loop-low.invariant.inside;
  before = before-read c.args.entries.now _ c.args.rank c.requires (omega arith) c.if-entries-middle.true;
  after = c.loop-low.invariant.after;
}

pub loop-low-preserved : goal.loop-low-preserved
loop-low-preserved c = record {
  ordered = omega arith;
  inside = omega arith;
  before = c.loop-low.invariant.before;
  after = after-read c.args.entries.now _ c.args.rank c.requires (omega arith) c.if-entries-middle.false;
}
