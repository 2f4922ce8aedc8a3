use Rattle.std.proofs.Common.{◌≡◌, length}
use Rattle.hx_operator.specs.Marks.{words_of}
use Rattle.hx_operator.proofs.marks.next_word.Given as goal

abbrev pub invariant-loop-word : goal.invariant-loop-word
invariant-loop-word l = words_of l.rest ≡ words_of l.fn.text

abbrev pub decreases-loop-word : goal.decreases-loop-word
decreases-loop-word l = length l.rest
