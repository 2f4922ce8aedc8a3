use Rattle.std.proofs.Common.{◌≡◌, ◌+◌, length, false, vec_len}
use Rattle.std.specs.List.{AllByRecursion}
use Rattle.hx_engine.specs.Finish.{is_any_waiting, sent_by_all, IsReturned}
use Rattle.hx_engine.proofs.returned_passes.take_all_back.Given as goal

abbrev pub invariant-loop-pass : goal.invariant-loop-pass
invariant-loop-pass g l = record {
  live : is_any_waiting l.passes.items ≡ false;
  same : l.desk ≡ l.fn.desk;
  parts : l.share.parts + length l.passes.items ≡ l.fn.share.parts + length l.fn.passes.items;
  amount : l.share.amount + sent_by_all l.passes.items ≡ l.fn.share.amount + sent_by_all l.fn.passes.items;
  returned : AllByRecursion (IsReturned g.V.Ledger.parts l.fn.desk.published) l.passes.items → AllByRecursion (IsReturned g.V.Ledger.parts l.fn.desk.published) l.fn.passes.items;
}

abbrev pub decreases-loop-pass : goal.decreases-loop-pass
decreases-loop-pass g l = vec_len l.passes
