use Rattle.std.proofs.Common.{◌≡◌, ◌+◌, ◌<◌, ◌^◌, ◌++◌, length, drop}
use Rattle.std.specs.List.{AllByRecursion}
use Rattle.hx_itch.specs.Message.{feed_time}
use Rattle.hx_desk.specs.Entries.{feed_spelled}
use Rattle.hx_desk.proofs.commit.stage_all.Given as goal

abbrev pub invariant-loop-message : goal.invariant-loop-message
invariant-loop-message l = record {
  log : l.writer.log ≡ l.fn.writer.log;
  published : l.writer.published ≡ l.fn.writer.published;
  staged : l.writer.staged ++ feed_spelled (drop l.message-index l.messages) ≡ l.fn.writer.staged ++ feed_spelled l.messages;
  count : length l.writer.staged ≡ length l.fn.writer.staged + l.message-index;
  times : AllByRecursion (λ f. feed_time f < 2 ^ 48) (drop l.message-index l.messages);
}
