use Rattle.std.proofs.Common.{◌≡◌, ◌+◌, ◌<◌, ◌++◌, length, take}
use Rattle.std.specs.List.{AllByRecursion}
use Rattle.hx_engine.specs.Passes.{sent_by}
use Rattle.hx_engine.specs.Exchanges.{LastDone, IsInOrder}
use Rattle.hx_engine.proofs.locked.Held.enter_all.Given as goal

abbrev pub invariant-loop-i : goal.invariant-loop-i
invariant-loop-i g l = record {
  history : l.self.desk.history ≡ l.fn.self.desk.history ++ sent_by l.pass (take l.i l.events);
  place : 0 < l.i → l.last.place ≡ length l.fn.self.desk.history + l.i;
  last : LastDone g.V.Venue.setup l.pass l.fn.self.desk.history (take l.i l.events) l.last;
  counted : l.share.amount ≡ l.fn.share.amount + l.i;
  parts : l.share.parts ≡ l.fn.share.parts;
  in_order : AllByRecursion (IsInOrder g.V.Venue.setup) (take l.i l.events);
}
