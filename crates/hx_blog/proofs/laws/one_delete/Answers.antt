use Rattle.std.proofs.Common.{refl}
use Rattle.hx_blog.specs.Packed.{packed, word_at}
use Rattle.hx_blog.proofs.laws.one_delete.Goals as goal

pub returns : goal.returns
unfolding packed word_at
returns c = refl
