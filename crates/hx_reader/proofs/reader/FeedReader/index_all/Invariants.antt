use Rattle.std.proofs.Common.{◌≡◌, ◌+◌, length}
use Rattle.hx_reader.specs.Readings.{all_placed}
use Rattle.hx_reader.proofs.reader.FeedReader.index_all.Given as goal

abbrev pub invariant-loop-message : goal.invariant-loop-message
invariant-loop-message l = record {
  can : (goal.iterator-loop-message).can_next l.messages;
  ends : (goal.iterator-loop-message).is_finite l.messages;
  rest : all_placed l.number l.messages l.self ≡ all_placed l.first l.fn.messages l.fn.self;
  number : l.number + length l.messages ≡ l.first + length l.fn.messages;
}
