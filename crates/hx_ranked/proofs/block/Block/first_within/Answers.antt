use Rattle.std.proofs.Common.{ap, ◌∙◌}
use Rattle.std.proofs.lemmas.List.{take_rest}
use Rattle.hx_ranked.specs.Ranked.{first_within_of}
use Rattle.hx_ranked.proofs.Summaries.{first-from}
use Rattle.hx_ranked.proofs.block.Block.first_within.Goals as goal

-- the entries before `start` rank before `from`
pub returns : goal.returns
returns c =
    let start = c.start_of-start.result in
    let is = c.deref.ensures.value ∙ c.self.view_is in
    c.first_within.ensures
    ∙ ap (first_within_of c.args.from c.args.last c.args.left c.args.minimum) (rw is (take_rest c.args.self.now start))
    ∙ first-from c.args.from c.args.last c.args.left c.args.minimum start c.args.self.now c.start_of-start.ensures.passed
