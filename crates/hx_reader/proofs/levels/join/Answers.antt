use Rattle.std.proofs.Common.{ap, sym, ◌∙◌, is_some}
use Rattle.hx_reader.specs.Levels.{level_at}
use Rattle.hx_reader.proofs.LevelKeyLaws.{apart, same_again}
use Rattle.hx_reader.proofs.levels.join.Goals as goal

pub returns-in_default-with_one_more-clause-others : goal.returns-in_default-with_one_more-clause-others
returns-in_default-with_one_more-clause-others c = λ q h.
    let e = rw c.in-Some.is at c.get_mut.ensures.value in
    ((c.get_mut.follows.holds c.in-Some.level.now).3 (ap is_some (sym e))).2 q (apart c.args.at q h)

pub returns-in_default-with_one_more-clause-err : goal.returns-in_default-with_one_more-clause-err
returns-in_default-with_one_more-clause-err c =
    let e = rw c.in-Some.is at c.get_mut.ensures.value in
    same_again c.args.levels.now (c.get_mut.follows.lender c.in-Some.level.now) c.args.at c.in-Some.level.now ((c.get_mut.follows.holds c.in-Some.level.now).3 (ap is_some (sym e))) (sym e)

pub returns-in-Some-clause-others : goal.returns-in-Some-clause-others
returns-in-Some-clause-others c = λ q h.
    let e = rw c.in-Some.is at c.get_mut.ensures.value in
    ((c.get_mut.follows.holds c.in-Some-with_one_more.grown).3 (ap is_some (sym e))).2 q (apart c.args.at q h)

pub returns-clause-others : goal.returns-clause-others
returns-clause-others c = λ q h. c.in_ok-insert.ensures.updates.2 q (apart c.args.at q h) ∙ ap (λ m. level_at m q) c.get_mut.follows.holds-at-none
