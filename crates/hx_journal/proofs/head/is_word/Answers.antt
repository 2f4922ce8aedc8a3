use Rattle.std.proofs.Common.{arith}
use Rattle.hx_journal.proofs.Spelling.{word_at, word_more}
use Rattle.hx_journal.proofs.head.is_word.Goals.{then-b-le32-via-then-b-le32, then-b-le32-via-else-b-le32+then-b-gt126}
use Rattle.hx_journal.proofs.head.is_word.Goals as goal

pub returns-then-b-le32 : goal.returns-then-b-le32
returns-then-b-le32 c = (
  λ never. absurd (cc (never)),
  λ is.
      let at = word_at c.args.word.now c.loop-b.b-index 0 c.loop-b-test.true is in
      elim c.then-b-le32.branch [
        | then-b-le32-via-then-b-le32 w ↦ absurd (omega (arith, at.0, w.if-b-le32.true))
        | then-b-le32-via-else-b-le32+then-b-gt126 w ↦ absurd (omega (arith, at.1, w.if-b-gt126.true))
      ],
)

pub loop-b-preserved : goal.loop-b-preserved
loop-b-preserved c =
    word_more c.args.word.now c.loop-b.b-index 0 c.loop-b-test.true c.loop-b.invariant (omega (arith, c.if-b-le32.false)) (omega (arith, c.if-b-gt126.false))
