use Rattle.std.proofs.Common.{take}
use Rattle.hx_journal.specs.Heads.{IsWord}
use Rattle.hx_journal.proofs.head.is_word.Given as goal

abbrev pub invariant-loop-b : goal.invariant-loop-b
invariant-loop-b l = IsWord (take l.b-index l.word)
