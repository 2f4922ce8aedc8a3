use Rattle.std.proofs.Common.{[], sym, ◌∙◌, subst}
use Rattle.atomic_table.specs.Table.{opening}
use Rattle.hx_blog.specs.Views.{writing}
use Rattle.hx_blog.specs.Rule.{RuleOfTheLog}
use Rattle.hx_blog.proofs.SeatsPass.{begins}
use Rattle.hx_blog.proofs.log.Log.new.Goals as goal

pub of_words-requires : goal.of_words-requires
of_words-requires g c =
    let room = c.args.capacity in
    subst (λ ws. RuleOfTheLog room (opening ws [] (writing {E = g.row.E.Denot} room [] [] []))) (sym (c.as_slice.ensures.value ∙ c.in_ok-words.ensures)) (begins room)
