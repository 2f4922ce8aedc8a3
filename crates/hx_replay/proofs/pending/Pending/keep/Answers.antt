use Rattle.std.proofs.Common.{sym, ap, drop, length, arith}
use Rattle.std.proofs.lemmas.List.{length-take}
use Rattle.hx_replay.proofs.Waiting.{last_ones}
use Rattle.hx_replay.proofs.pending.Pending.keep.Goals as goal

pub returns : goal.returns
returns c =
    let k = c.args.count in
    let at = c.self.inside.start in
    let n = c.self.inside.count in
    let xs = c.self.inside.bytes.items in
    last_ones xs c.args.self.now at n k (sym c.self.view_is) c.self.invariant.0 (omega (arith, c.requires, ap length c.self.view_is, length-take n (drop at xs)))
