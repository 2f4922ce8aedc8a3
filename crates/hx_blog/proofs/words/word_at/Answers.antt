use Rattle.std.proofs.Common.{ap, ◌∙◌}
use Rattle.std.specs.Int.{w64, from_be_bytes}
use Rattle.hx_blog.specs.Packed.{word_at}
use Rattle.hx_blog.proofs.words.word_at.Goals as goal

pub returns : goal.returns
unfolding word_at
returns c = c.from_be_bytes.ensures ∙ ap (from_be_bytes w64) c.array_at.ensures
